-- The code's state is the definition's, and so is a call's answer: nothing is lost.
use Rattle.std.proofs.Common.{ℕ, zero, suc, List, ◌≡◌, refl, ap, ◌∙◌}
use Rattle.std.specs.Prelude.{Result, Ok, Err}
use Rattle.refusal.specs.Number.{number}
use Rattle.refusal.specs.declared.Refusal.{Refusal}
use Rattle.refusal.proofs.Exact.{refusal_of, refusal-exact, never-none}
use Rattle.writing.specs.Writer as writing
use Rattle.writing.specs.Writer.{Outcome}
use Rattle.turns.proofs.Exact.{is_turn, turn-exact}
use Rattle.turns.specs.declared.Turn.{Turn}
use Rattle.writer.specs.Says.{state_of, written_says}
use Rattle.writer.specs.declared.Writer.{Writer}

abbrev is_state : writing.Writer → Writer
is_state w = record { turn = is_turn w.turn; at = w.at }

pub state-exact : (w : Writer) → w ≡ is_state (state_of w)
state-exact w = ap (λ (t : Turn). record { turn = t; at = w.at }) (turn-exact w.turn)

-- of a number: the state, or the refusal
abbrev is_answer : ℕ → Writer → Result Writer Refusal
is_answer zero v = Ok v
is_answer (suc n) v = Err (refusal_of (suc n))

refused : (n : ℕ) (v : Writer) → (n ≡ 0 → ⊥) → Err (refusal_of n) ≡ is_answer n v
refused zero v z = absurd (z refl)
refused (suc n) v z = refl

-- with the output after it
abbrev is_written : Outcome → Result Writer Refusal × List ℕ
is_written r = (is_answer r.number (is_state r.writer), r.output)

pub written-exact : (w : Writer) (r : Result Writer Refusal) (out : List ℕ) → (r, out) ≡ is_written (written_says w r out)
written-exact w (Ok v) out = ap (λ (x : Writer). (Ok x, out)) (state-exact v)
written-exact w (Err r) out =
    ap (λ (x : Result Writer Refusal). (x, out)) (ap (λ (y : Refusal). Err y) (refusal-exact r) ∙ refused (number r) (is_state (state_of w)) (never-none r))
