-- What a call answers on a lent list, with which numbers, and how long a list is never too short.
use Prim.Native.Nat.{ℕ, ◌*◌, ◌≤◌}
use mathlib.Core.Path.{◌≡◌, refl}
use mathlib.Core.Bool.{Bool, true, false}
use mathlib.Core.Logic.{inl, inr}
use mathlib.Core.List.{List}
use native.Mathlib.Omega.{arith}
use borrow.Author.Tests.{lt-ltb, le-ltb}
use lib.ListN.{length, drop}
use lib.Seq.{take-append_seam, drop-append_seam}
use lib.Dec.{ltb}
use Rattle.stream.proofs.Numbers.{ends}
use Rattle.supporting.specs.Offsets.{stop_of, unsupported, unsupported_offsets, answer}
use Rattle.supporting.specs.Claims as claims
use Rattle.supporting.specs.Claims.{Numbered}
use Rattle.supporting.proofs.Offsets.{few}

pub unsupported-answered : claims.UnsupportedAnswered
unsupported-answered capabilities s out =
    let xs = unsupported_offsets capabilities s in
    let b = go (ltb (length out) (length xs)) refl in
    record {
      counts = b.0;
      stops = b.1;
      short = λ h. rw (lt-ltb (length out) (length xs) h) (refl, refl);
      taken = λ h. rw (le-ltb (length out) (length xs) h) (refl, take-append_seam xs (drop (length xs) out), drop-append_seam xs (drop (length xs) out));
    }
  where
    go : (b : Bool) → ltb (length out) (length (unsupported_offsets capabilities s)) ≡ b
        → ((answer capabilities s out).1 ≡ length (unsupported_offsets capabilities s)) × ((answer capabilities s out).2 ≡ stop_of s)
    go true e = rw e (refl, refl)
    go false e = rw e (refl, refl)

stop-most : (s : List ℕ) → stop_of s ≤ 5
unfolding stop_of
stop-most s = let walked = ends s in rw walked.ends walked.last

pub unsupported-numbers : claims.UnsupportedNumbers
unsupported-numbers capabilities s out = go (ltb (length out) (length (unsupported_offsets capabilities s))) refl
  where
    go : (b : Bool) → ltb (length out) (length (unsupported_offsets capabilities s)) ≡ b → Numbered out (answer capabilities s out)
    go true e = rw e (inr (refl, refl), stop-most s)
    go false e = rw e (inl refl, stop-most s)

pub unsupported-room : claims.UnsupportedRoom
unsupported-room capabilities s out h =
    let n : length (unsupported_offsets capabilities s) * 20 ≤ length s = few (unsupported capabilities) s in
    let l : length (unsupported_offsets capabilities s) ≤ length out = omega arith in
    rw (le-ltb (length out) (length (unsupported_offsets capabilities s)) l) refl
