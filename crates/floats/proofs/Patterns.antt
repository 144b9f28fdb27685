-- Every pattern survives reading and writing, a NaN's too, and every float writing and reading.
use Prim.Native.Nat.{ℕ, ◌^◌, ◌<◌}
use mathlib.Core.Path.{◌≡◌, refl, sym, ◌∙◌}
use mathlib.Core.Bool.{Bool, true, false, not}
use lib.Dec.{T}
use lib.Ieee.{Float, inf, fin, binary32, nan, is_nan, nan_bits, of_bits, to_bits, fits}
use lib.Ieee.Bits.{of_bits-to_bits, to_bits-of_bits, nan_bits_is}
use Rattle.floats.specs.Pattern.{chosen, pattern_of}

-- ---- both ways

chosen-beside : (n : Bool) (beside own : ℕ) → (T (not n) → own ≡ beside) → chosen n n beside own ≡ beside
chosen-beside true beside own h = refl
chosen-beside false beside own h = h tt

-- reading a pattern and writing it again gives the pattern
pub pattern-of-read : (pattern : ℕ) → pattern < 2 ^ 32 → pattern_of (of_bits binary32 pattern) pattern ≡ pattern
unfolding pattern_of
pattern-of-read pattern h =
    rw (nan_bits_is binary32 pattern)
    (chosen-beside (is_nan (of_bits binary32 pattern)) pattern (to_bits binary32 (of_bits binary32 pattern)) (to_bits-of_bits binary32 pattern h))

pub nan-only : (x : Float) → is_nan x ≡ true → x ≡ nan
unfolding is_nan
nan-only nan h = refl
nan-only (inf s) h = cc
nan-only (fin s m e) h = cc

read-chosen : (m n : Bool) (x : Float) (beside : ℕ) → is_nan x ≡ m → nan_bits binary32 beside ≡ n → T (fits binary32 x)
    → of_bits binary32 (chosen m n beside (to_bits binary32 x)) ≡ x
unfolding of_bits
read-chosen true true x beside e k f = nan-only (of_bits binary32 beside) (sym (nan_bits_is binary32 beside) ∙ k) ∙ sym (nan-only x e)
read-chosen true false x beside e k f = sym (nan-only x e)
read-chosen false n x beside e k f = of_bits-to_bits binary32 x f

-- writing a float and reading it again gives the float, whatever stands beside it
pub read-of-pattern : (x : Float) (beside : ℕ) → T (fits binary32 x) → of_bits binary32 (pattern_of x beside) ≡ x
unfolding pattern_of
read-of-pattern x beside f = read-chosen (is_nan x) (nan_bits binary32 beside) x beside refl refl f

-- a NaN's pattern is read as the NaN
pub nan-of-pattern : (pattern : ℕ) → nan_bits binary32 pattern ≡ true → of_bits binary32 pattern ≡ nan
nan-of-pattern pattern e = nan-only (of_bits binary32 pattern) (sym (nan_bits_is binary32 pattern) ∙ e)
