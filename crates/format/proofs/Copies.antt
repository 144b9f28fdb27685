-- A copy is taken, or refused and leaves the lent output as it was: a string with 8 or 13 and never with 19, a list with 7 or 13.
use Prim.Native.Nat.{ℕ, ◌≤◌}
use mathlib.Core.Path.{◌≡◌, refl}
use mathlib.Core.Bool.{Bool, true, false}
use mathlib.Core.Logic.{inl, inr}
use mathlib.Core.List.{List}
use native.Mathlib.Omega.{arith}
use borrow.Author.Tests.{ltb-false, le-ltb}
use lib.ListN.{length, drop, length-append, length-drop}
use lib.Dec.{ltb}
use Rattle.format.specs.Format.{number, cstring, ucs2, Read, bind, pick, at_most, decode_items, decode_cstring, decode_ucs2, decode}
use Rattle.format.proofs.Reading.{Gives, gives, fails, gives-map}
use Rattle.format.proofs.Width.{cstring-behind, ucs2-behind}
use Rattle.format.proofs.Refusal.{Refuses, reads, refuses, cstring-refuses, ucs2-refuses, number-refuses, items-refuse}
use Rattle.format.specs.Copy.{Answer, Copies, taken, kept, copied, copy_cstring, copy_ucs2, copy_numbers}

module _ (absent : ℕ) (out : List ℕ) where
  copies-pick : (b : Bool) {r t : Answer × List ℕ} → Copies absent out r → (b ≡ false → Copies absent out t) → Copies absent out (pick b r t)
  copies-pick true h k = h
  copies-pick false h k = k refl

  copied-copies : (r : Read (List ℕ)) → Refuses (λ n. n ≡ absent) r → Copies absent out (copied r out)
  copied-copies r (refuses e) = kept (inl e)
  copied-copies r (reads {a = xs}) = copies-pick (ltb (length out) (length xs)) (kept (inr refl))
      λ e. taken (omega (arith, ltb-false (length out) (length xs) e, length-append xs (drop (length xs) out), length-drop (length xs) out))

-- a limit that no string read exceeds is no limit
at-most-all : (m : ℕ) (r : Read (List ℕ)) → Gives (λ xs t. length xs ≤ m) r → bind r (at_most m) ≡ r
at-most-all m r (gives {a = xs} h) = rw (le-ltb m (length xs) h)
at-most-all m r fails = refl

-- so with the body's length as limit a string is read as without one
pub cstring-whole : (s : List ℕ) (at : ℕ) → decode (cstring (length s)) (drop at s) ≡ decode_cstring (drop at s)
unfolding decode
cstring-whole s at =
    at-most-all (length s) (decode_cstring (drop at s)) (gives-map (cstring-behind (drop at s)) λ xs t b. omega (arith, b.within, length-drop at s))

pub ucs2-whole : (s : List ℕ) (at : ℕ) → decode (ucs2 (length s)) (drop at s) ≡ decode_ucs2 (drop at s)
unfolding decode
ucs2-whole s at =
    at-most-all (length s) (decode_ucs2 (drop at s)) (gives-map (ucs2-behind (drop at s)) λ xs t b. omega (arith, b.within, length-drop at s))

pub cstring-copies : (s : List ℕ) (at : ℕ) (out : List ℕ) → Copies 8 out (copy_cstring s at out)
unfolding copy_cstring
cstring-copies s at out = rw (cstring-whole s at) (copied-copies 8 out (decode_cstring (drop at s)) (cstring-refuses (λ n. n ≡ 8) refl (drop at s)))

pub ucs2-copies : (s : List ℕ) (at : ℕ) (out : List ℕ) → Copies 8 out (copy_ucs2 s at out)
unfolding copy_ucs2
ucs2-copies s at out = rw (ucs2-whole s at) (copied-copies 8 out (decode_ucs2 (drop at s)) (ucs2-refuses (λ n. n ≡ 8) refl (drop at s)))

pub numbers-copies : (w : ℕ) (s : List ℕ) (at n : ℕ) (out : List ℕ) → Copies 7 out (copy_numbers w s at n out)
unfolding copy_numbers decode
numbers-copies w s at n out =
    copied-copies 7 out (decode_items (decode (number w)) n (drop at s)) (items-refuse (λ n. n ≡ 7) (decode (number w)) (number-refuses (λ n. n ≡ 7) refl w) n (drop at s))
