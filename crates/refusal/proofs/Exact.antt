-- A refusal's number determines it, and what an answer says the answer: nothing is lost.
use Rattle.std.proofs.Common.{ℕ, zero, suc, ◌-◌, List, [], ◌∷◌, get_or, ◌≡◌, refl, ap}
use Rattle.std.specs.Prelude.{Result, Ok, Err}
use native.Mathlib.Omega.{arith}
use Rattle.format.specs.Copy.{Answer, took, denied}
use Rattle.refusal.specs.Number.{number}
use Rattle.refusal.specs.Says.{answer_says, number_says}
use Rattle.refusal.specs.declared.Refusal.{Refusal}
use Rattle.refusal.specs.declared.Refusal.TheVariants as refusal

-- by their numbers, from 1 on
abbrev refusals : List Refusal
refusals =
    refusal.ShortHeader ∷ refusal.NotCitp ∷ refusal.Version ∷ refusal.MessageSize ∷ refusal.ShortStream ∷
    refusal.ShortLayerHeader ∷ refusal.ShortBody ∷ refusal.NoZero ∷ refusal.MessageType ∷ refusal.IdentifierType ∷
    refusal.HoldsZero ∷ refusal.TooLong ∷ refusal.ShortOutput ∷ refusal.OutOfTurn ∷ refusal.PacketSize ∷ refusal.Channels ∷
    refusal.Shared ∷ refusal.Full ∷ refusal.OverLimit ∷ refusal.PastUniverse ∷ []

abbrev pub refusal_of : ℕ → Refusal
refusal_of n = get_or refusals (n - 1) refusal.PastUniverse

pub refusal-exact : (r : Refusal) → r ≡ refusal_of (number r)
refusal-exact = elim [
  | refusal.ShortHeader ↦ refl
  | refusal.NotCitp ↦ refl
  | refusal.Version ↦ refl
  | refusal.MessageSize ↦ refl
  | refusal.ShortStream ↦ refl
  | refusal.ShortLayerHeader ↦ refl
  | refusal.ShortBody ↦ refl
  | refusal.NoZero ↦ refl
  | refusal.MessageType ↦ refl
  | refusal.IdentifierType ↦ refl
  | refusal.HoldsZero ↦ refl
  | refusal.TooLong ↦ refl
  | refusal.ShortOutput ↦ refl
  | refusal.OutOfTurn ↦ refl
  | refusal.PacketSize ↦ refl
  | refusal.Channels ↦ refl
  | refusal.Shared ↦ refl
  | refusal.Full ↦ refl
  | refusal.OverLimit ↦ refl
  | refusal.PastUniverse ↦ refl
]

-- and is never 0
pub never-none : (r : Refusal) → number r ≡ 0 → ⊥
never-none refusal.ShortHeader e = omega (arith, e)
never-none refusal.NotCitp e = omega (arith, e)
never-none refusal.Version e = omega (arith, e)
never-none refusal.MessageSize e = omega (arith, e)
never-none refusal.ShortStream e = omega (arith, e)
never-none refusal.ShortLayerHeader e = omega (arith, e)
never-none refusal.ShortBody e = omega (arith, e)
never-none refusal.NoZero e = omega (arith, e)
never-none refusal.MessageType e = omega (arith, e)
never-none refusal.IdentifierType e = omega (arith, e)
never-none refusal.HoldsZero e = omega (arith, e)
never-none refusal.TooLong e = omega (arith, e)
never-none refusal.ShortOutput e = omega (arith, e)
never-none refusal.OutOfTurn e = omega (arith, e)
never-none refusal.PacketSize e = omega (arith, e)
never-none refusal.Channels e = omega (arith, e)
never-none refusal.Shared e = omega (arith, e)
never-none refusal.Full e = omega (arith, e)
never-none refusal.OverLimit e = omega (arith, e)
never-none refusal.PastUniverse e = omega (arith, e)

-- ---- answers

abbrev pub answer_by : Answer → Result ℕ Refusal
answer_by (took n) = Ok n
answer_by (denied n) = Err (refusal_of n)

pub answer-exact : (r : Result ℕ Refusal) → r ≡ answer_by (answer_says r)
answer-exact (Ok n) = refl
answer-exact (Err e) = ap (λ (y : Refusal). Err y) (refusal-exact e)

-- of an answer without a value; one with a value is not told by its number
abbrev pub checked_by : ℕ → Result (Unit {0}) Refusal
checked_by zero = Ok tt
checked_by (suc n) = Err (refusal_of (suc n))

checked-off : (n : ℕ) → (n ≡ 0 → ⊥) → checked_by n ≡ Err (refusal_of n)
checked-off zero h = absurd (h refl)
checked-off (suc n) h = refl

pub checked-exact : (r : Result (Unit {0}) Refusal) → r ≡ checked_by (number_says r)
checked-exact (Ok x) = refl
checked-exact (Err e) = rw (checked-off (number e) (never-none e)) (ap (λ (y : Refusal). Err y) (refusal-exact e))
