-- Tests that say the same. Assumes nothing.
use Prim.Native.Nat.{ℕ, ◌+◌, ◌<◌, ◌≤◌, min}
use mathlib.Core.Path.{◌≡◌, refl, sym, ap, ap₂, ◌∙◌}
use mathlib.Core.Bool.{Bool, true, false, not, ◌&&◌, ◌||◌, and_comm}
use mathlib.Core.Logic.{◌⊎◌, inl, inr}
use native.Mathlib.Omega.{arith}
use native.Mathlib.Nat.{lt_of_not-le, le_of_suc-le-suc}
use lib.Dec.{ltb, leb, eqb}
use borrow.Author.Tests.{ltb-true, ltb-false, lt-ltb, le-ltb, le-leb, lt-leb, eq-eqb, ne_eqb, eqb-true, eqb-false}
use Rattle.patching.specs.Bits.{many}
use Rattle.patching.proofs.Digits.{many-ext, many-less, many_below}

pub same_test : (a b c d : ℕ) → (a < b → c < d) → (c < d → a < b) → ltb a b ≡ ltb c d
same_test a b c d f g = go (ltb a b) refl
  where
    go : (t : Bool) → ltb a b ≡ t → ltb a b ≡ ltb c d
    go true e = e ∙ sym (lt-ltb c d (f (ltb-true a b e)))
    go false e = e ∙ sym (le-ltb c d (le_of_suc-le-suc (lt_of_not-le (λ h. let l : a < b = g h in let k : b ≤ a = ltb-false a b e in omega arith))))

pub eqb_comm : (a b : ℕ) → eqb a b ≡ eqb b a
eqb_comm a b = go (eqb a b) refl
  where
    go : (t : Bool) → eqb a b ≡ t → eqb a b ≡ eqb b a
    go true e = e ∙ sym (eq-eqb b a (sym (eqb-true a b e)))
    go false e = e ∙ sym (ne_eqb b a (λ q. eqb-false a b e (sym q)))

not-ltb : (a b : ℕ) → not (ltb a b) ≡ leb b a
not-ltb a b = go (ltb a b) refl
  where
    go : (t : Bool) → ltb a b ≡ t → not (ltb a b) ≡ leb b a
    go true e = ap not e ∙ sym (lt-leb b a (ltb-true a b e))
    go false e = ap not e ∙ sym (le-leb b a (ltb-false a b e))

-- a span holds what is below its end and not below its start
pub span-tests : (a b c : ℕ) → (leb a c && ltb c b) ≡ (ltb c b && not (ltb c a))
span-tests a b c = and_comm (leb a c) (ltb c b) ∙ ap (λ (t : Bool). ltb c b && t) (sym (not-ltb c a))

-- how many of the numbers below d lie from a to below b
pub span-many : (a b d : ℕ) → a ≤ b → many (λ c. leb a c && ltb c b) d + min a d ≡ min b d
span-many a b d rises =
    ap₂ (λ (m n : ℕ). m + n)
    (many-ext (λ c. leb a c && ltb c b) (λ c. ltb c b && not (ltb c a)) d (λ c h. span-tests a b c))
    (sym (many_below a d))
    ∙ many-less (λ c. ltb c a) (λ c. ltb c b) d (λ c h. let k : c < a = ltb-true c a h in lt-ltb c b (omega arith))
    ∙ many_below b d

-- ---- tests joined

pub and-rest : (a b : Bool) → a ≡ true → (a && b) ≡ false → b ≡ false
and-rest a b t h = ap (λ (x : Bool). x && b) (sym t) ∙ h

pub not-both : (a b : Bool) → (a && b) ≡ false → (a ≡ false) ⊎ (b ≡ false)
not-both true b h = inr h
not-both false b h = inl refl

pub or-true-cases : (a b : Bool) → (a || b) ≡ true → (a ≡ true) ⊎ (b ≡ true)
or-true-cases true b h = inl refl
or-true-cases false b h = inr h
