-- The pattern of a float that has a pattern beside it. Rattle's floats have one NaN, with no payload, so at a NaN the pattern beside it is the value.
use Rattle.std.specs.Prelude.{ℕ, Bool, true, false, Float}
use Rattle.std.specs.Float.{binary32}
use Rattle.std.specs.Float.Ieee.{is_nan, nan_bits, to_bits}

-- the float's own bits; at a NaN the pattern beside it, and the quiet NaN where that is no NaN's
abbrev pub chosen : (is_nan beside_is_nan : Bool) (beside own : ℕ) → ℕ
chosen true true beside own = beside
chosen true false beside own = 0x7fc0_0000
chosen false beside_is_nan beside own = own

unfoldable pub pattern_of : Float → (beside : ℕ) → ℕ
pattern_of x beside = chosen (is_nan x) (nan_bits binary32 beside) beside (to_bits binary32 x)
