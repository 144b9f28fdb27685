-- What holds of the state's plain fields.
use Rattle.std.specs.Prelude.{ℕ, ◌<◌, ◌≤◌, ◌≡◌, ◌⊎◌, List}
use Rattle.writing.specs.Call.{Call}
use Rattle.writing.specs.Writer.{Writer, left, identifiers_left, apply}
use Rattle.plain.specs.State.{state_is, flat_state, refused_with, called}
use Rattle.plain.specs.declared.state.WriterState.{WriterState}

-- fields that no state has: a turn above 3, or a kind above 19 where the turn asks for one
abbrev pub Unmeant : WriterState → Type 0
Unmeant w = (4 ≤ w.turn) ⊎ (((w.turn ≡ 1) ⊎ (w.turn ≡ 2)) × (20 ≤ w.kind))

-- on such fields every call is refused with 14; they and the output are as they were given
abbrev pub Refuses : Type 0
Refuses = (c : Call) (w : WriterState) (o : List ℕ) → Unmeant w → called c w o ≡ (refused_with w 14, o)

-- fields within the widths of their types, as any that a caller gives are
abbrev pub Within : WriterState → Type 0
Within w = (w.items < 65536) × (w.identifiers < 256) × (w.at < 4294967296)

-- a state whose counts and place are within the same
abbrev pub Fits : Writer → Type 0
Fits w = (left w.turn < 65536) × (identifiers_left w.turn < 256) × (w.at < 4294967296)

-- plain fields are such a state
abbrev pub Given : Type 0
Given = (w : WriterState) → Within w → Fits (state_is w)

-- every call on such a state, taken or refused, leaves one
abbrev pub Stays : Type 0
Stays = (c : Call) (w : Writer) (o : List ℕ) → Fits w → Fits (apply c w o).writer

-- the plain fields of such a state are that state: nothing is lost
abbrev pub Exact : Type 0
Exact = (w : Writer) → Fits w → state_is (flat_state w) ≡ w

-- so the fields that a call answers are the state that it leaves
abbrev pub Follows : Type 0
Follows = (c : Call) (w : WriterState) (o : List ℕ) → Within w → state_is (called c w o).0.writer ≡ (apply c (state_is w) o).writer
