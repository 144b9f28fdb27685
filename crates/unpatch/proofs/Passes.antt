-- A pass over all words lent, in which the entries that stay are put first. Assumes nothing.
use Rattle.std.proofs.Common.{◌≡◌, ℕ, ◌+◌, ◌-◌, ◌<◌, ◌≤◌, Bool, true, false, not, List, ◌∷◌, ◌++◌, length, get_or, take, drop, set, sym, refl, ap, ◌∙◌, arith, get_or-drop}
use lib.Seq.{take-length}
use Rattle.patching.specs.Entry.{Entry, identifier, fields, key}
use Rattle.patching.specs.Book.{filter, drops}
use Rattle.patching.proofs.Loops.{front-next, filter-step, Keeping, keep-drop, keep-next, keep-end}
use Rattle.unpatch.specs.Unpatch.{Stay, Dropped}

abbrev stays : List ℕ → Entry → Bool
stays ids x = not (drops ids (key (fields x)))

-- one more stays where it is
pub stay-next : (ids : List ℕ) (xs : List Entry) {i : ℕ} → Stay ids xs i → i < length xs → drops ids (identifier (get_or xs i 0)) ≡ false → Stay ids xs (i + 1)
stay-next ids xs {i} s h e =
    let rest : filter (stays ids) (drop i xs) ≡ get_or xs i 0 ∷ filter (stays ids) (drop (i + 1) xs) =
    rw take-length at (filter-step xs (length xs) (omega arith) (stays ids) i 0 true h (ap not e))
    in (
      omega arith,
      front-next xs (length xs) (omega arith) i 0 (filter (stays ids) (drop (i + 1) xs)) h
          ∙ ap (λ (l : List Entry). take i xs ++ l) (sym rest)
          ∙ s.1,
    )

-- of the numbers xs, as they are now in ys, i are looked at, and k are kept
pub record Dropping (ids : List ℕ) (xs ys : List Entry) (k i : ℕ) : Type 0 where
  pub keeping : Keeping (stays ids) (length xs) xs ys k i

pub from : {ids : List ℕ} {xs : List Entry} {k : ℕ} → Stay ids xs k → Dropping ids xs xs k k
from s = record { keeping = record { below = omega arith; within = s.0; as_many = refl; kept = rw take-length s.1; behind = refl } }

module _ {ids : List ℕ} {xs ys : List Entry} {k i : ℕ} (s : Dropping ids xs ys k i) where
  -- the next entry is what it was
  pub unmoved : get_or ys i 0 ≡ get_or xs i 0
  unmoved =
      let e : k + (i - k) ≡ i = omega (arith, s.keeping.below) in
      ap (λ (n : ℕ). get_or ys n 0) (sym e)
      ∙ sym (get_or-drop k ys (i - k) 0)
      ∙ ap (λ (l : List Entry). get_or l (i - k) 0) s.keeping.behind
      ∙ get_or-drop k xs (i - k) 0
      ∙ ap (λ (n : ℕ). get_or xs n 0) e

  pub drop-next : i < length xs → drops ids (identifier (get_or ys i 0)) ≡ true → Dropping ids xs ys k (i + 1)
  drop-next h e = record { keeping = keep-drop (omega arith) s.keeping h (ap not e) }

  pub keep_one : i < length xs → drops ids (identifier (get_or ys i 0)) ≡ false → Dropping ids xs (set ys k (get_or ys i 0)) (k + 1) (i + 1)
  keep_one h e = record { keeping = keep-next (omega arith) s.keeping h (ap not e) }

  pub dropped : length xs ≤ i → Dropped ids xs k ys
  dropped h = let e = rw take-length at (keep-end (omega arith) s.keeping h) in record { count = e.0; words = e.1 }
