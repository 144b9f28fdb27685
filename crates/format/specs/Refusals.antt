-- The numbers with which reading can be refused.
use Rattle.std.specs.Prelude.{ℕ, Bool, List, [], ◌∷◌, ◌++◌, eqb}
use Rattle.format.specs.Format.{Format, number, code, cstring, ucs2, list, ◌&◌}
use Rattle.format.specs.Fault.{any}

-- 7 where the bytes end in a number or a count, a type byte's own, 8 where a string has no end and 19 where it is longer than its limit
abbrev pub refusals : Format → List ℕ
refusals (number w) = 7 ∷ []
refusals (code n r) = 7 ∷ r ∷ []
refusals (cstring m) = 8 ∷ 19 ∷ []
refusals (ucs2 m) = 8 ∷ 19 ∷ []
refusals (list w f) = 7 ∷ refusals f
refusals (f & g) = refusals f ++ refusals g

-- n is one of the list
abbrev pub is_one_of : List ℕ → ℕ → Bool
is_one_of l n = any (λ (x : ℕ). eqb n x) l
