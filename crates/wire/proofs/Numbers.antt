-- A number, and a list of them, is there where the bytes are: laws over the width.
use Prim.Native.Nat.{ℕ, zero, suc, ◌+◌, ◌-◌, ◌*◌, ◌<◌, ◌≤◌}
use mathlib.Core.Path.{◌≡◌, refl, ap, ◌∙◌}
use mathlib.Core.List.{List, [], ◌∷◌}
use native.Mathlib.Nat.{add-zero, zero-mul, suc-mul}
use native.Mathlib.Numerals.{add-one, add-two, add-three}
use native.Mathlib.Omega.{arith}
use lib.ListN.{length, drop, get_or, length-drop}
use lib.Seq.{drop-cons}
use Rattle.format.specs.Format.{Format, number, got, decode_number, decode_items, decode, size}
use Rattle.format.specs.View.{seen, missed, view, placed, place, units_of}
use Rattle.format.proofs.Width.{width}
use Rattle.format.proofs.Passing.{Plain, plain-short}

-- the number of w bytes at an offset, the lowest first
abbrev pub number_at : ℕ → List ℕ → ℕ → ℕ
number_at zero s at = 0
number_at (suc w) s at = get_or s at 0 + 256 * number_at w s (suc at)

decoded : (w : ℕ) (s : List ℕ) (at : ℕ) → w ≤ length s - at → decode_number w (drop at s) ≡ got (number_at w s at) (drop (at + w) s)
unfolding decode_number
decoded zero s at h = rw add-zero
decoded (suc w) s at h =
    let here : at < length s = omega arith in
    let behind : suc at + w ≡ at + suc w = omega arith in
    rw (drop-cons s at 0 here, decoded w s (suc at) (omega arith), behind)

-- numbers are not there where their bytes are not
pub plain-missed : (f : Format) → Plain f → (s : List ℕ) (at : ℕ) → length s - at < width f → missed 7 ≡ view f s at
unfolding view placed
plain-missed f p s at h = rw (plain-short f p (drop at s) (omega (arith, length-drop at s)))

module _ (w : ℕ) (s : List ℕ) (at : ℕ) where
  pub number-there : w ≤ length s - at → view (number w) s at ≡ seen (number_at w s at) (at + w)
  unfolding view placed place size decode
  number-there h = rw (decoded w s at h)

  pub number_short : length s - at < w → missed 7 ≡ view (number w) s at
  number_short h = plain-missed (number w) tt s at h

  number_is : {n : ℕ} → w ≤ length s - at → n ≡ number_at w s at → seen n (at + w) ≡ view (number w) s at
  number_is h e = rw (number-there h, e)

-- from the bytes as a reader finds them
module _ (s : List ℕ) (at : ℕ) {n : ℕ} where
  pub number-1 : 1 ≤ length s - at → n ≡ get_or s at 0 → seen n (at + 1) ≡ view (number 1) s at
  number-1 h e = number_is 1 s at h (omega arith)

  pub joined-2 : n ≡ get_or s at 0 + get_or s (at + 1) 0 * 256 → n ≡ number_at 2 s at
  joined-2 e = e ∙ rw add-one (omega arith)

  pub joined-4 : n ≡ get_or s at 0 + get_or s (at + 1) 0 * 256 + get_or s (at + 2) 0 * 65536 + get_or s (at + 3) 0 * 16777216 → n ≡ number_at 4 s at
  joined-4 e = e ∙ rw (add-one, add-two, add-three) (omega arith)

  pub number-2 : 2 ≤ length s - at → n ≡ get_or s at 0 + get_or s (at + 1) 0 * 256 → seen n (at + 2) ≡ view (number 2) s at
  number-2 h e = number_is 2 s at h (joined-2 e)

  pub number-4 : 4 ≤ length s - at → n ≡ get_or s at 0 + get_or s (at + 1) 0 * 256 + get_or s (at + 2) 0 * 65536 + get_or s (at + 3) 0 * 16777216 →
      seen n (at + 4) ≡ view (number 4) s at
  number-4 h e = number_is 4 s at h (joined-4 e)

-- ---- a list

-- n numbers of w bytes from an offset on
abbrev pub numbers_at : ℕ → List ℕ → ℕ → ℕ → List ℕ
numbers_at w s at zero = []
numbers_at w s at (suc n) = number_at w s at ∷ numbers_at w s (at + w) n

module _ (w : ℕ) (s : List ℕ) where
  pub numbers-decoded : (at n : ℕ) → n * w ≤ length s - at → decode_items (decode (number w)) n (drop at s) ≡ got (numbers_at w s at n) (drop (at + n * w) s)
  unfolding decode_items decode
  numbers-decoded at zero h = rw (zero-mul, add-zero)
  numbers-decoded at (suc n) h =
      let behind : at + w + n * w ≡ at + suc n * w = omega (arith, suc-mul n w) in
      rw (decoded w s at (omega (arith, suc-mul n w)), numbers-decoded (at + w) n (omega (arith, suc-mul n w)), behind)

  pub numbers-length : (at n : ℕ) → length (numbers_at w s at n) ≡ n
  numbers-length at zero = refl
  numbers-length at (suc n) = ap suc (numbers-length (at + w) n)

  -- the i-th of them
  pub number_of : (at n i : ℕ) → i < n → get_or (numbers_at w s at n) i 0 ≡ number_at w s (at + i * w)
  number_of at zero i h = absurd (omega arith)
  number_of at (suc n) zero h = rw (zero-mul, add-zero)
  number_of at (suc n) (suc i) h = let on : at + w + i * w ≡ at + suc i * w = omega (arith, suc-mul i w) in rw (← on) (number_of (at + w) n i (omega arith))

-- units are numbers of two bytes
pub units-numbers : (s : List ℕ) (at n : ℕ) → 2 * n ≤ length s - at → units_of n (drop at s) ≡ numbers_at 2 s at n
unfolding units_of
units-numbers s at zero h = refl
units-numbers s at (suc n) h =
    let low : at < length s = omega arith in
    let high : suc at < length s = omega arith in
    let on : suc (suc at) ≡ at + 2 = omega arith in
    let unit : get_or s at 0 + 256 * get_or s (suc at) 0 ≡ number_at 2 s at = omega arith in
    rw (drop-cons s at 0 low, drop-cons s (suc at) 0 high, unit, on, units-numbers s (at + 2) n (omega arith))
