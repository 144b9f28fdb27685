-- A string or a list copied: the loop's step, over the list that is copied, and the answer with the output afterwards.
use Prim.Native.Nat.{ℕ, suc, ◌+◌, ◌-◌, ◌*◌, ◌<◌, ◌≤◌}
use mathlib.Core.Path.{◌≡◌}
use mathlib.Core.List.{List, ◌++◌}
use native.Mathlib.Numerals.{add-one}
use native.Mathlib.Nat.{zero-add}
use native.Mathlib.Omega.{arith}
use borrow.Author.Tests.{lt-ltb, le-ltb}
use lib.ListN.{length, take, drop, get_or, set, length-drop}
use lib.Seq.{length-take-le, take_all, paste-suc}
use Rattle.format.specs.Format.{number, Read, got, refused, decode_items, decode_cstring, decode_ucs2, decode}
use Rattle.format.specs.View.{units_of}
use Rattle.format.specs.Copy.{took, denied, copied, copy_cstring, copy_ucs2, copy_numbers}
use Rattle.format.proofs.Passing.{items-short}
use Rattle.format.proofs.Copies.{cstring-whole, ucs2-whole}
use Rattle.std.specs.Prelude.{Some, None}
use Rattle.search.specs.Zero.{bytes_to_zero, units_to_zero}
use Rattle.wire.proofs.Numbers.{number_at, numbers_at, numbers-decoded, numbers-length, number_of}
use Rattle.wire.proofs.Strings.{cstring-ends, cstring-unended, ucs2-ends, ucs2-unended, length-units, bytes-ended, bytes-unended, units-ended, units-unended}

-- one element more of xs stands first in the output
copy_more : (out xs : List ℕ) (i : ℕ) → i < length xs → i < length out →
    set (take i xs ++ drop i out) i (get_or xs i 0) ≡ take (i + 1) xs ++ drop (i + 1) out
copy_more out xs i h l = rw add-one (simp zero-add at (paste-suc out 0 xs i 0 (omega arith) h))

pub copy-next : (start xs : List ℕ) {out : List ℕ} {i b : ℕ} → i < length xs → i < length start → b ≡ get_or xs i 0 →
    out ≡ take i xs ++ drop i start → set out i b ≡ take (i + 1) xs ++ drop (i + 1) start
copy-next start xs {out} {i} h l e p = rw (p, e) (copy_more start xs i h l)

-- n numbers of w bytes, one by one
module _ (w : ℕ) (s : List ℕ) (at n : ℕ) (start : List ℕ) where
  pub number-next : {out : List ℕ} {i k b : ℕ} → i < n → n ≤ length start → k ≡ at + i * w → b ≡ number_at w s k →
      out ≡ take i (numbers_at w s at n) ++ drop i start → set out i b ≡ take (i + 1) (numbers_at w s at n) ++ drop (i + 1) start
  number-next {i} {b} h l k e p =
      let there : b ≡ get_or (numbers_at w s at n) i 0 = rw (number_of w s at n i h, ← k) e in
      copy-next start (numbers_at w s at n) (omega (arith, numbers-length w s at n)) (omega arith) there p

  pub all-numbers : {out : List ℕ} {i : ℕ} → i ≡ n → out ≡ take i (numbers_at w s at n) ++ drop i start → out ≡ numbers_at w s at n ++ drop n start
  all-numbers e p = rw (e, take_all n (numbers_at w s at n) (omega (arith, numbers-length w s at n))) at p

-- ---- the answers

module _ (r : Read (List ℕ)) (out : List ℕ) where
  not_read : {k : ℕ} → r ≡ refused k → (denied k, out) ≡ copied r out
  not_read e = rw e

  too_long : {xs t : List ℕ} (n : ℕ) → r ≡ got xs t → length xs ≡ n → length out < n → (denied 13, out) ≡ copied r out
  too_long n e l h = rw (e, l, lt-ltb (length out) n h)

  taken : {xs t o : List ℕ} (n : ℕ) → r ≡ got xs t → length xs ≡ n → n ≤ length out → o ≡ xs ++ drop n out → (took n, o) ≡ copied r out
  taken n e l h p = rw (e, l, le-ltb (length out) n h, p)

-- a string of n bytes
module _ (s : List ℕ) (at : ℕ) (out : List ℕ) where
  pub cstring-copy-8 : None ≡ bytes_to_zero (drop at s) → (denied 8, out) ≡ copy_cstring s at out
  unfolding copy_cstring
  cstring-copy-8 e = rw (cstring-whole s at) (not_read (decode_cstring (drop at s)) out (cstring-unended (drop at s) (bytes-unended (drop at s) e)))

  module _ {n : ℕ} (e : Some n ≡ bytes_to_zero (drop at s)) where
    bytes_read : decode_cstring (drop at s) ≡ got (take n (drop at s)) (drop (suc n) (drop at s))
    bytes_read = let b = bytes-ended (drop at s) e in rw b.0 (cstring-ends (drop at s) b.1)

    length-read : length (take n (drop at s)) ≡ n
    length-read = let b = bytes-ended (drop at s) e in length-take-le n (drop at s) (omega (arith, b.0, b.1))

    pub cstring-copy-13 : length out < n → (denied 13, out) ≡ copy_cstring s at out
    unfolding copy_cstring
    cstring-copy-13 l = rw (cstring-whole s at) (too_long (decode_cstring (drop at s)) out n bytes_read length-read l)

    pub cstring-copied : {o : List ℕ} → n ≤ length out → o ≡ take n (drop at s) ++ drop n out → (took n, o) ≡ copy_cstring s at out
    unfolding copy_cstring
    cstring-copied l p = rw (cstring-whole s at) (taken (decode_cstring (drop at s)) out n bytes_read length-read l p)

-- a string of n units
module _ (s : List ℕ) (at : ℕ) (out : List ℕ) where
  pub ucs2-copy-8 : None ≡ units_to_zero (drop at s) → (denied 8, out) ≡ copy_ucs2 s at out
  unfolding copy_ucs2
  ucs2-copy-8 e =
      rw (ucs2-whole s at) (not_read (decode_ucs2 (drop at s)) out (ucs2-unended (drop at s) (omega (arith, units-unended (drop at s) e))))

  module _ {n : ℕ} (e : Some n ≡ units_to_zero (drop at s)) where
    units-read : decode_ucs2 (drop at s) ≡ got (units_of n (drop at s)) (drop (2 * n + 2) (drop at s))
    units-read = let b = units-ended (drop at s) e in rw b.0 (ucs2-ends (drop at s) b.1)

    units-length : length (units_of n (drop at s)) ≡ n
    units-length = let b = units-ended (drop at s) e in length-units n (drop at s) (omega (arith, b.0, b.1))

    pub ucs2-copy-13 : length out < n → (denied 13, out) ≡ copy_ucs2 s at out
    unfolding copy_ucs2
    ucs2-copy-13 l = rw (ucs2-whole s at) (too_long (decode_ucs2 (drop at s)) out n units-read units-length l)

    pub ucs2-copied : {o : List ℕ} → n ≤ length out → o ≡ units_of n (drop at s) ++ drop n out → (took n, o) ≡ copy_ucs2 s at out
    unfolding copy_ucs2
    ucs2-copied l p = rw (ucs2-whole s at) (taken (decode_ucs2 (drop at s)) out n units-read units-length l p)

-- a list of n numbers of w bytes
module _ (w : ℕ) (s : List ℕ) (at n : ℕ) (out : List ℕ) where
  pub numbers-7 : length s - at < n * w → (denied 7, out) ≡ copy_numbers w s at n out
  unfolding copy_numbers
  numbers-7 h = not_read (decode_items (decode (number w)) n (drop at s)) out (items-short (number w) tt n (drop at s) (omega (arith, length-drop at s)))

  pub numbers-13 : n * w ≤ length s - at → length out < n → (denied 13, out) ≡ copy_numbers w s at n out
  unfolding copy_numbers
  numbers-13 h l = too_long (decode_items (decode (number w)) n (drop at s)) out n (numbers-decoded w s at n h) (numbers-length w s at n) l

  pub numbers-copied : {o : List ℕ} → n * w ≤ length s - at → n ≤ length out → o ≡ numbers_at w s at n ++ drop n out → (took n, o) ≡ copy_numbers w s at n out
  unfolding copy_numbers
  numbers-copied h l p = taken (decode_items (decode (number w)) n (drop at s)) out n (numbers-decoded w s at n h) (numbers-length w s at n) l p
