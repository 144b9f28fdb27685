-- A string by the count of what stands before its zero: as the reader gives it, and as its view.
use Prim.Native.Nat.{ℕ, zero, suc, ◌+◌, ◌-◌, ◌*◌, ◌<◌, ◌≤◌}
use mathlib.Core.Path.{◌≡◌, refl, sym, ap, ◌∙◌}
use mathlib.Core.Bool.{Bool, true, false}
use mathlib.Core.List.{List, [], ◌∷◌}
use native.Mathlib.Omega.{arith}
use lib.ListN.{length, take, drop, length-drop}
use lib.Seq.{length-take-le}
use lib.Dec.{ltb, eqb}
use borrow.Author.Tests.{lt-ltb, le-ltb, ltb-true, ltb-false}
use Rattle.std.specs.Prelude.{Option, Some, None}
use Rattle.format.specs.Format.{cstring, ucs2, got, refused, bind, pick, decode_cstring, decode_ucs2, decode, size}
use Rattle.format.specs.View.{seen, missed, view, placed, place, units_of}
use Rattle.search.specs.Zero.{unless, only_if, before_zero, units_before_zero, bytes_to_zero, units_to_zero}
use Rattle.search.proofs.Zero.{before-within}

-- a string of bytes ends at its first zero, and without one is refused
pub cstring-ends : (t : List ℕ) → before_zero t < length t → decode_cstring t ≡ got (take (before_zero t) t) (drop (suc (before_zero t)) t)
unfolding before_zero decode_cstring
cstring-ends [] h = absurd (omega arith)
cstring-ends (b ∷ t) h = by (eqb b 0) h (cstring-ends t)
  where
    n : ℕ
    n = before_zero t

    by : (z : Bool) → unless z (suc n) < suc (length t) → (n < length t → decode_cstring t ≡ got (take n t) (drop (suc n) t)) →
        pick z (got [] t) (bind (decode_cstring t) (λ xs u. got (b ∷ xs) u)) ≡ got (take (unless z (suc n)) (b ∷ t)) (drop (suc (unless z (suc n))) (b ∷ t))
    by true l k = refl
    by false l k = rw (k (omega arith))

pub cstring-unended : (t : List ℕ) → length t ≤ before_zero t → decode_cstring t ≡ refused 8
unfolding before_zero decode_cstring
cstring-unended [] h = refl
cstring-unended (b ∷ t) h = by (eqb b 0) h (cstring-unended t)
  where
    by : (z : Bool) → suc (length t) ≤ unless z (suc (before_zero t)) → (length t ≤ before_zero t → decode_cstring t ≡ refused 8) →
        pick z (got [] t) (bind (decode_cstring t) (λ xs u. got (b ∷ xs) u)) ≡ refused 8
    by true l k = absurd (omega arith)
    by false l k = rw (k (omega arith))

-- the same of units
pub ucs2-ends : (t : List ℕ) → 2 * units_before_zero t + 1 < length t → decode_ucs2 t ≡ got (units_of (units_before_zero t) t) (drop (2 * units_before_zero t + 2) t)
unfolding units_before_zero decode_ucs2 units_of
ucs2-ends [] h = absurd (omega arith)
ucs2-ends (b ∷ []) h = absurd (omega arith)
ucs2-ends (b ∷ c ∷ t) h = by (eqb (b + 256 * c) 0) h (ucs2-ends t)
  where
    n : ℕ
    n = units_before_zero t

    by : (z : Bool) → 2 * unless z (suc n) + 1 < suc (suc (length t)) → (2 * n + 1 < length t → decode_ucs2 t ≡ got (units_of n t) (drop (2 * n + 2) t)) →
        pick z (got [] t) (bind (decode_ucs2 t) (λ xs u. got ((b + 256 * c) ∷ xs) u))
        ≡ got (units_of (unless z (suc n)) (b ∷ c ∷ t)) (drop (2 * unless z (suc n) + 2) (b ∷ c ∷ t))
    by true l k = refl
    by false l k = let e : 2 * suc n + 2 ≡ suc (suc (2 * n + 2)) = omega arith in rw (k (omega arith), e)

pub ucs2-unended : (t : List ℕ) → length t < 2 * units_before_zero t + 2 → decode_ucs2 t ≡ refused 8
unfolding units_before_zero decode_ucs2
ucs2-unended [] h = refl
ucs2-unended (b ∷ []) h = refl
ucs2-unended (b ∷ c ∷ t) h = by (eqb (b + 256 * c) 0) h (ucs2-unended t)
  where
    by : (z : Bool) → suc (suc (length t)) < 2 * unless z (suc (units_before_zero t)) + 2 →
        (length t < 2 * units_before_zero t + 2 → decode_ucs2 t ≡ refused 8) →
        pick z (got [] t) (bind (decode_ucs2 t) (λ xs u. got ((b + 256 * c) ∷ xs) u)) ≡ refused 8
    by true l k = absurd (omega arith)
    by false l k = rw (k (omega arith))

pub length-units : (n : ℕ) (t : List ℕ) → 2 * n ≤ length t → length (units_of n t) ≡ n
unfolding units_of
length-units zero t h = refl
length-units (suc n) [] h = absurd (omega arith)
length-units (suc n) (b ∷ []) h = absurd (omega arith)
length-units (suc n) (b ∷ c ∷ t) h = ap suc (length-units n t (omega arith))

-- in a body: n is the count of bytes or units before the zero, m the limit
module _ (s : List ℕ) (at m : ℕ) where
  cstring-read : {n : ℕ} → n ≡ before_zero (drop at s) → at + n < length s → decode_cstring (drop at s) ≡ got (take n (drop at s)) (drop (suc n) (drop at s))
  cstring-read e h = rw e (cstring-ends (drop at s) (omega (arith, length-drop at s)))

  cstring-length : {n : ℕ} → n ≡ before_zero (drop at s) → length (take n (drop at s)) ≡ n
  cstring-length {n} e = length-take-le n (drop at s) (omega (arith, before-within (drop at s)))

  cstring-there : {n : ℕ} → n ≡ before_zero (drop at s) → at + n < length s → n ≤ m → seen (at, n) (at + n + 1) ≡ view (cstring m) s at
  unfolding view placed place size decode
  cstring-there {n} e h short =
      let back : at + (n + 1) ≡ at + n + 1 = omega arith in
      rw (cstring-read e h, cstring-length e, le-ltb m n short, cstring-length e, back)

  cstring-over : {n : ℕ} → n ≡ before_zero (drop at s) → at + n < length s → m < n → missed 19 ≡ view (cstring m) s at
  unfolding view placed decode
  cstring-over {n} e h long = rw (cstring-read e h, cstring-length e, lt-ltb m n long)

  cstring-none : {n : ℕ} → n ≡ before_zero (drop at s) → length s ≤ at + n → missed 8 ≡ view (cstring m) s at
  unfolding view placed decode
  cstring-none e h = rw (cstring-unended (drop at s) (omega (arith, length-drop at s)))

  ucs2-there : {n : ℕ} → n ≡ units_before_zero (drop at s) → 2 ≤ length s - (at + 2 * n) → n ≤ m → seen (at, n) (at + 2 * n + 2) ≡ view (ucs2 m) s at
  unfolding view placed place size decode
  ucs2-there {n} e h short =
      let l : length (drop at s) ≡ length s - at = length-drop at s in
      let count = units_before_zero (drop at s) in
      let len : length (units_of count (drop at s)) ≡ n = length-units count (drop at s) (omega arith) ∙ omega arith in
      let back : at + (n * 2 + 2) ≡ at + 2 * n + 2 = omega arith in
      rw (ucs2-ends (drop at s) (omega arith), len, le-ltb m n short, len, back)

  ucs2-over : {n : ℕ} → n ≡ units_before_zero (drop at s) → 2 ≤ length s - (at + 2 * n) → m < n → missed 19 ≡ view (ucs2 m) s at
  unfolding view placed decode
  ucs2-over {n} e h long =
      let l : length (drop at s) ≡ length s - at = length-drop at s in
      let count = units_before_zero (drop at s) in
      let len : length (units_of count (drop at s)) ≡ n = length-units count (drop at s) (omega arith) ∙ omega arith in
      rw (ucs2-ends (drop at s) (omega arith), len, lt-ltb m n long)

  ucs2-none : {n : ℕ} → n ≡ units_before_zero (drop at s) → length s - (at + 2 * n) < 2 → missed 8 ≡ view (ucs2 m) s at
  unfolding view placed decode
  ucs2-none e h = rw (ucs2-unended (drop at s) (omega (arith, length-drop at s)))

-- by what the search answers: the count of what stands before the zero, or none where there is no zero
bytes-cases : (P : Type 0) (t : List ℕ) (r : Option ℕ) → r ≡ bytes_to_zero t → (r ≡ Some (before_zero t) → before_zero t < length t → P)
    → (r ≡ None → length t ≤ before_zero t → P) → P
bytes-cases P t r e f g = by (ltb (before_zero t) (length t)) refl e
  where
    by : (b : Bool) → ltb (before_zero t) (length t) ≡ b → r ≡ only_if b (before_zero t) → P
    by true p q = f q (ltb-true (before_zero t) (length t) p)
    by false p q = g q (ltb-false (before_zero t) (length t) p)

units-cases : (P : Type 0) (t : List ℕ) (r : Option ℕ) → r ≡ units_to_zero t → (r ≡ Some (units_before_zero t) → 2 * units_before_zero t + 1 < length t → P)
    → (r ≡ None → length t ≤ 2 * units_before_zero t + 1 → P) → P
units-cases P t r e f g = by (ltb (2 * units_before_zero t + 1) (length t)) refl e
  where
    by : (b : Bool) → ltb (2 * units_before_zero t + 1) (length t) ≡ b → r ≡ only_if b (units_before_zero t) → P
    by true p q = f q (ltb-true (2 * units_before_zero t + 1) (length t) p)
    by false p q = g q (ltb-false (2 * units_before_zero t + 1) (length t) p)

abbrev value-of : Option ℕ → ℕ
value-of (Some n) = n
value-of None = 0

abbrev found : Option ℕ → ℕ
found (Some n) = 1
found None = 0

some-is : {a b : ℕ} → Some a ≡ Some b → a ≡ b
some-is e = ap (λ (r : Option ℕ). value-of r) e

zero-one : (a b : ℕ) → a ≡ b → a ≡ 1 → b ≡ 0 → ⊥
zero-one a b e f g = omega (arith, e, f, g)

some-none : {a : ℕ} → Some a ≡ None → ⊥
some-none e = zero-one _ _ (ap (λ (r : Option ℕ). found r) e) refl refl

-- n is the count before a zero, and there is one
pub bytes-ended : (t : List ℕ) {n : ℕ} → Some n ≡ bytes_to_zero t → (n ≡ before_zero t) × (before_zero t < length t)
bytes-ended t {n} e = bytes-cases ((n ≡ before_zero t) × (before_zero t < length t)) t (Some n) e (λ q h. (some-is q, h)) (λ q h. absurd (some-none q))

pub units-ended : (t : List ℕ) {n : ℕ} → Some n ≡ units_to_zero t → (n ≡ units_before_zero t) × (2 * units_before_zero t + 1 < length t)
units-ended t {n} e =
    units-cases ((n ≡ units_before_zero t) × (2 * units_before_zero t + 1 < length t)) t (Some n) e (λ q h. (some-is q, h)) (λ q h. absurd (some-none q))

-- there is none
pub bytes-unended : (t : List ℕ) → None ≡ bytes_to_zero t → length t ≤ before_zero t
bytes-unended t e = bytes-cases (length t ≤ before_zero t) t None e (λ q h. absurd (some-none (sym q))) (λ q h. h)

pub units-unended : (t : List ℕ) → None ≡ units_to_zero t → length t ≤ 2 * units_before_zero t + 1
units-unended t e = units-cases (length t ≤ 2 * units_before_zero t + 1) t None e (λ q h. absurd (some-none (sym q))) (λ q h. h)

-- what a reader answers
module _ (s : List ℕ) (at m : ℕ) where
  pub cstring-8 : None ≡ bytes_to_zero (drop at s) → missed 8 ≡ view (cstring m) s at
  cstring-8 e = cstring-none s at m {n = before_zero (drop at s)} refl (omega (arith, bytes-unended (drop at s) e, length-drop at s))

  pub cstring-19 : {n : ℕ} → Some n ≡ bytes_to_zero (drop at s) → m < n → missed 19 ≡ view (cstring m) s at
  cstring-19 e h = let b = bytes-ended (drop at s) e in cstring-over s at m b.0 (omega (arith, b.0, b.1, length-drop at s)) h

  pub cstring-taken : {n : ℕ} → Some n ≡ bytes_to_zero (drop at s) → n ≤ m → (seen (at, n) (at + n + 1) ≡ view (cstring m) s at) × (at + n + 1 ≤ length s)
  cstring-taken e h =
      let b = bytes-ended (drop at s) e in
      let l = length-drop at s in
      (cstring-there s at m b.0 (omega (arith, b.0, b.1, l)) h, omega (arith, b.0, b.1, l))

  pub ucs2-8 : None ≡ units_to_zero (drop at s) → missed 8 ≡ view (ucs2 m) s at
  ucs2-8 e = ucs2-none s at m {n = units_before_zero (drop at s)} refl (omega (arith, units-unended (drop at s) e, length-drop at s))

  pub ucs2-19 : {n : ℕ} → Some n ≡ units_to_zero (drop at s) → m < n → missed 19 ≡ view (ucs2 m) s at
  ucs2-19 e h = let b = units-ended (drop at s) e in ucs2-over s at m b.0 (omega (arith, b.0, b.1, length-drop at s)) h

  pub ucs2-taken : {n : ℕ} → Some n ≡ units_to_zero (drop at s) → n ≤ m → (seen (at, n) (at + 2 * n + 2) ≡ view (ucs2 m) s at) × (at + 2 * n + 2 ≤ length s)
  ucs2-taken e h =
      let b = units-ended (drop at s) e in
      let l = length-drop at s in
      (ucs2-there s at m b.0 (omega (arith, b.0, b.1, l)) h, omega (arith, b.0, b.1, l))
