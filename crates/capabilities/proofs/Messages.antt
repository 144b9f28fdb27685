-- A capability looked for in a list.
use Prim.Native.Nat.{ℕ}
use mathlib.Core.Path.{◌≡◌, refl, sym}
use mathlib.Core.Bool.{Bool, true, false}
use mathlib.Core.List.{List, [], ◌∷◌}
use borrow.Author.Tests.{eqb-true, eqb-false, eq-eqb, ne_eqb}
use lib.Dec.{eqb}
use Rattle.std.specs.List.{list_any}
use Rattle.format.specs.Fault.{any}
use Rattle.format.specs.Refusals.{is_one_of}

swapped : (n x : ℕ) → eqb x n ≡ eqb n x
swapped n x = go (eqb x n) refl
  where
    go : (b : Bool) → eqb x n ≡ b → b ≡ eqb n x
    go true e = sym (eq-eqb n x (sym (eqb-true x n e)))
    go false e = sym (ne_eqb n x (λ f. eqb-false x n e (sym f)))

pub contained : (xs : List ℕ) (n : ℕ) → list_any (λ y. eqb y n) xs ≡ is_one_of xs n
unfolding any
contained [] n = refl
contained (x ∷ xs) n = rw (swapped n x, contained xs n) refl
