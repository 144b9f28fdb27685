-- The packet writer's state as plain fields, and what its calls answer.
use Rattle.std.specs.Prelude.{ℕ, zero, suc, ◌%◌, List, eqb, Result, Ok, Err}
use Rattle.std.specs.Prelude as std
use Rattle.std.proofs.Math.Option.{Option, none, some}
use Rattle.format.specs.Format.{pick}
use Rattle.protocol.specs.Layer.{find}
use Rattle.protocol.specs.Kind.{Kind, EnterShow, FixtureList, index, kinds}
use Rattle.writing.specs.Call.{Call}
use Rattle.writing.specs.Writer.{Turn, idle, body_due, items_due, parts_due, Writer, apply}
use Rattle.turns.specs.Says.{kind_is}
use Rattle.turns.specs.declared.Kind.{Kind as Declared}
use Rattle.writer.specs.Says.{state_of}
use Rattle.writer.specs.declared.Writer as writer
use Rattle.plain.specs.declared.state.WriterState.{WriterState}
use Rattle.plain.specs.declared.state.WriterAnswer.{WriterAnswer}

-- ---- kinds by their codes

abbrev pub kind_says : std.Option Declared → Option Kind
kind_says (std.Some k) = some (kind_is k)
kind_says std.None = none

-- the kind whose index is the code
unfoldable pub kind_at : ℕ → Option Kind
kind_at code = find (λ k. eqb (index k) code) kinds

abbrev pub by_kind : {A : Type 0} → (Kind → A) → A → Option Kind → A
by_kind known unknown none = unknown
by_kind known unknown (some k) = known k

-- ---- the state

-- items due of a kind that has none: every call is out of turn
abbrev pub nowhere : Turn
nowhere = items_due EnterShow 1

abbrev pub turn_of : WriterState → Option Kind → Turn
turn_of w none = nowhere
turn_of w (some k) = pick (eqb w.turn 1) (body_due k) (pick (eqb w.turn 2) (items_due k w.items) nowhere)

-- the turn that plain fields are: 0 idle, 3 in a fixture, 1 and 2 by the kind
unfoldable pub turn_at : WriterState → Turn
unfolding kind_at
turn_at w = pick (eqb w.turn 0) idle (pick (eqb w.turn 3) (parts_due w.items w.identifiers) (turn_of w (kind_at w.kind)))

abbrev pub state_is : WriterState → Writer
state_is w = record { turn = turn_at w; at = w.at }

-- plain fields of a turn, counts to the width of their fields
abbrev pub flat_turn : Turn → (at : ℕ) → WriterState
flat_turn idle at = record { turn = 0; kind = 0; items = 0; identifiers = 0; at = at }
flat_turn (body_due k) at = record { turn = 1; kind = index k; items = 0; identifiers = 0; at = at }
flat_turn (items_due k n) at = record { turn = 2; kind = index k; items = n % 65536; identifiers = 0; at = at }
flat_turn (parts_due n i) at = record { turn = 3; kind = index FixtureList; items = n % 65536; identifiers = i % 256; at = at }

-- and of a state, whose place is a u32
abbrev pub flat_state : Writer → WriterState
flat_state w = flat_turn w.turn (w.at % 4294967296)

-- ---- a call

-- a refused call answers the fields that it was given
abbrev pub refused_with : WriterState → (number : ℕ) → WriterAnswer
refused_with w n = record { number = n; writer = w }

-- by what tells why it is refused
abbrev pub answer_of : {R : Type 0} → (R → ℕ) → WriterState → Result writer.Writer R → WriterAnswer
answer_of told w (Ok next) = record { number = 0; writer = flat_state (state_of next) }
answer_of told w (Err r) = refused_with w (told r)

-- by its number
abbrev pub settled_with : WriterState → (number : ℕ) → Writer → WriterAnswer
settled_with w zero next = record { number = 0; writer = flat_state next }
settled_with w (suc n) next = refused_with w (suc n)

-- with the output after it
abbrev pub called : Call → WriterState → List ℕ → WriterAnswer × List ℕ
called c w o =
    let r = apply c (state_is w) o in
    (settled_with w r.number r.writer, r.output)
