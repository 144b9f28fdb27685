-- The packet writer over plain fields: kinds by their codes, and a call from what its parts answer.
use Prim.Native.Nat.{ℕ, zero, suc}
use mathlib.Core.Path.{◌≡◌, refl, ap, ◌∙◌}
use mathlib.Core.List.{List}
use mathlib.Core.Option.{some}
use Rattle.std.specs.Prelude.{Result, Ok, Err}
use Rattle.protocol.specs.Layer.{find}
use Rattle.protocol.specs.Kind.{Kind, index}
use Rattle.protocol.proofs.Every.{every, found-kind}
use Rattle.refusal.specs.Number.{number}
use Rattle.refusal.specs.declared.Refusal.{Refusal}
use Rattle.refusal.proofs.Exact.{never-none}
use Rattle.writing.specs.Call.{Call}
use Rattle.writing.specs.Writer as writing
use Rattle.writing.specs.Writer.{Outcome, apply}
use Rattle.writer.specs.Says.{state_of, written_says}
use Rattle.writer.specs.declared.Writer.{Writer}
use Rattle.plain.specs.State.{kind_at, state_is, refused_with, answer_of, settled_with, called}
use Rattle.plain.specs.declared.state.WriterState.{WriterState}
use Rattle.plain.specs.declared.state.WriterAnswer.{WriterAnswer}

pub kind-found : (k : Kind) → kind_at (index k) ≡ some k
unfolding every kind_at find
kind-found k = found-kind (λ k. kind_at (index k)) refl k

-- ---- a call

pub refused-is : {x y : WriterAnswer} {o : List ℕ} → x ≡ y → ◌≡◌ {A = WriterAnswer × List ℕ} (x, o) (y, o)
refused-is {o = o} e = ap (λ (z : WriterAnswer). (z, o)) e

refused-with : (w : WriterState) (n : ℕ) (next : writing.Writer) → (n ≡ 0 → ⊥) → refused_with w n ≡ settled_with w n next
refused-with w zero next z = absurd (z refl)
refused-with w (suc n) next z = refl

-- plain fields of what a call leaves
abbrev left_by : WriterState → Outcome → WriterAnswer × List ℕ
left_by w r = (settled_with w r.number r.writer, r.output)

left-by : (w : WriterState) (s : Writer) (r : Result Writer Refusal) (o : List ℕ)
    → ◌≡◌ {A = WriterAnswer × List ℕ} (answer_of number w r, o) (left_by w (written_says s r o))
left-by w s (Ok v) o = refl
left-by w s (Err r) o = refused-is (refused-with w (number r) (state_of s) (never-none r))

pub call-is : (c : Call) (w : WriterState) (o : List ℕ) (s : Writer) (r : Result Writer Refusal) {after : List ℕ} {x : WriterAnswer}
    → state_of s ≡ state_is w → written_says s r after ≡ apply c (state_of s) o → x ≡ answer_of number w r → (x, after) ≡ called c w o
call-is c w o s r {after = after} e p q = refused-is q ∙ left-by w s r after ∙ ap (left_by w) (p ∙ ap (λ (t : writing.Writer). apply c t o) e)
