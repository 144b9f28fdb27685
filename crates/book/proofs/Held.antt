-- The entries that a book holds among the words lent. Assumes nothing.
use Prim.Native.Nat.{ℕ, zero, suc, ◌<◌, ◌≤◌, min}
use mathlib.Core.Path.{◌≡◌, refl, sym, ap, ◌∙◌}
use mathlib.Core.Bool.{Bool, true, false}
use mathlib.Core.List.{List, [], ◌∷◌}
use mathlib.Core.Option.{none, some}
use native.Mathlib.Omega.{arith}
use lib.ListN.{length, take, get_or, length-take}
use lib.Seq.{take_all, length-take-le, get_or-take}
use lib.Dec.{leb}
use borrow.Author.Tests.{leb-true, leb-false}
use Rattle.patching.specs.Entry.{Entry, fields}
use Rattle.patching.specs.Book.{held, entry_at}

module _ (count : ℕ) (ws : List Entry) where
  module _ (r : ℕ) (e : r ≡ length (held count ws)) where
    pub held-within : r ≤ length ws
    held-within = omega (arith, length-take (min count 256) ws)

    pub held-take : take r ws ≡ held count ws
    held-take = go (leb (min count 256) (length ws)) refl
      where
        go : (b : Bool) → leb (min count 256) (length ws) ≡ b → take r ws ≡ held count ws
        go true q =
            let h : min count 256 ≤ length ws = leb-true (min count 256) (length ws) q in
            ap (λ (n : ℕ). take n ws) (e ∙ length-take-le (min count 256) ws h)
        go false q =
            let h : length ws < min count 256 = leb-false (min count 256) (length ws) q in
            let a : length ws ≤ min count 256 = omega arith in
            let b : length ws ≤ r = omega (arith, length-take (min count 256) ws) in
            take_all r ws b ∙ sym (take_all (min count 256) ws a)

    pub held_at : (k : ℕ) → k < r → get_or (held count ws) k 0 ≡ get_or ws k 0
    held_at k h = get_or-take (min count 256) ws k 0 (omega (arith, length-take (min count 256) ws))

pub entry-there : (k : ℕ) (l : List Entry) → k < length l → some (fields (get_or l k 0)) ≡ entry_at k l
entry-there k [] h = absurd (omega arith)
entry-there zero (x ∷ l) h = refl
entry-there (suc k) (x ∷ l) h = entry-there k l (omega arith)

pub entry_past : (k : ℕ) (l : List Entry) → length l ≤ k → none ≡ entry_at k l
entry_past k [] h = refl
entry_past zero (x ∷ l) h = absurd (omega arith)
entry_past (suc k) (x ∷ l) h = entry_past k l (omega arith)
