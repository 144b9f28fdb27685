-- An entry put into a hole. Assumes nothing.
use Prim.Native.Nat.{ℕ, ◌+◌, ◌<◌}
use mathlib.Core.Path.{◌≡◌, sym, ap, ap₂, ◌∙◌}
use mathlib.Core.List.{List, ◌∷◌, ◌++◌}
use native.Mathlib.Omega.{arith}
use native.Mathlib.Numerals.{add-one}
use lib.ListN.{length, take, drop, set}
use lib.Seq.{set_split, length-take-le, take_at, drop_at}
use Rattle.patching.specs.Entry.{Entry}
use Rattle.book.specs.Scan.{remove_at, insert_at}

-- a hole filled
pub hole-put : (xs : List Entry) (k : ℕ) (e : Entry) → k < length xs → set xs k e ≡ insert_at k e (remove_at k xs)
hole-put xs k e h =
    let n : length (take k xs) ≡ k = length-take-le k xs (omega arith) in
    set_split xs k e h
    ∙ ap (λ (m : ℕ). take k xs ++ (e ∷ drop m xs)) (sym (add-one k))
    ∙ sym (ap₂ (λ (s t : List Entry). s ++ (e ∷ t)) (take_at (take k xs) (drop (k + 1) xs) k n) (drop_at (take k xs) (drop (k + 1) xs) k n))
