-- The search for a zero, as std answers it.
use Rattle.std.proofs.Common.{ℕ, ◌≡◌, refl, List, [], ◌∷◌, nat_eq}
use Rattle.std.specs.List.{list_any}
use Rattle.format.specs.Fault.{any, has_zero}

pub zero-any : (s : List ℕ) → list_any (λ y. nat_eq y 0) s ≡ has_zero s
unfolding any
zero-any [] = refl
zero-any (x ∷ xs) = rw (zero-any xs) refl
