-- Tests on the numbers below d, as a word's binary digits: the word, how many hold, the first that holds.
use Rattle.std.specs.Prelude.{ℕ, zero, suc, ◌+◌, ◌*◌, Bool, true, false, List, [], ◌∷◌}
use Rattle.format.specs.Format.{pick}

-- a binary digit
abbrev pub bit : Bool → ℕ
bit true = 1
bit false = 0

-- the number whose digit j, of d, is set where p j holds
unfoldable pub pack : (ℕ → Bool) → ℕ → ℕ
pack p zero = 0
pack p (suc d) = bit (p 0) + 2 * pack (λ j. p (suc j)) d

-- n words of 64 digits, from a number on
unfoldable pub packs : (ℕ → Bool) → ℕ → ℕ → List ℕ
unfolding pack
packs p at zero = []
packs p at (suc n) = pack (λ j. p (at + j)) 64 ∷ packs p (at + 64) n

-- how many of the numbers below d hold
unfoldable pub many : (ℕ → Bool) → ℕ → ℕ
many p zero = 0
many p (suc d) = bit (p 0) + many (λ j. p (suc j)) d

-- the first of the numbers below d that holds, and d where none does
unfoldable pub first : (ℕ → Bool) → ℕ → ℕ
first p zero = 0
first p (suc d) = pick (p 0) 0 (suc (first (λ j. p (suc j)) d))
