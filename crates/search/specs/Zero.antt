-- How much stands before the zero that ends a string.
use Rattle.std.specs.Prelude.{ℕ, suc, ◌+◌, ◌*◌, Bool, true, false, List, [], ◌∷◌, length, eqb, ltb, Option, Some, None}

abbrev pub unless : Bool → ℕ → ℕ
unless true n = 0
unless false n = n

-- the bytes before the first zero byte; all, if there is none
unfoldable pub before_zero : List ℕ → ℕ
before_zero [] = 0
before_zero (b ∷ s) = unless (eqb b 0) (suc (before_zero s))

-- the 16-bit units before the first zero unit; all, if there is none; a lone last byte is no unit
unfoldable pub units_before_zero : List ℕ → ℕ
units_before_zero [] = 0
units_before_zero (b ∷ []) = 0
units_before_zero (b ∷ c ∷ s) = unless (eqb (b + 256 * c) 0) (suc (units_before_zero s))

-- a count where the test holds
abbrev pub only_if : Bool → ℕ → Option ℕ
only_if true n = Some n
only_if false n = None

-- the bytes before the first zero byte, where there is one
abbrev pub bytes_to_zero : List ℕ → Option ℕ
bytes_to_zero s = only_if (ltb (before_zero s) (length s)) (before_zero s)

-- the units before the first zero unit, where there is one
abbrev pub units_to_zero : List ℕ → Option ℕ
units_to_zero s = only_if (ltb (2 * units_before_zero s + 1) (length s)) (units_before_zero s)
