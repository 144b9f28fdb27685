-- The bytes of a block, as far as the body reaches.
use Prim.Native.Nat.{ℕ, ◌+◌, ◌-◌, ◌<◌, ◌≤◌}
use mathlib.Core.Path.{◌≡◌, sym, ◌∙◌}
use mathlib.Core.List.{List}
use native.Mathlib.Omega.{arith}
use lib.ListN.{length, take, drop, drop_of_length-le, length-drop}
use lib.Seq.{take_all, take-nil}

module _ (s : List ℕ) (start len : ℕ) where
  pub block-past : length s ≤ start → take 0 s ≡ take len (drop start s)
  block-past h = rw (drop_of_length-le s h, take-nil len)

  pub block-whole : take (start + len - start) (drop start s) ≡ take len (drop start s)
  block-whole = let e : start + len - start ≡ len = omega arith in rw e

  pub block-clipped : length s - start < len → take (length s - start) (drop start s) ≡ take len (drop start s)
  block-clipped h =
      let l = length-drop start s in
      take_all (length s - start) (drop start s) (omega arith) ∙ sym (take_all len (drop start s) (omega arith))
