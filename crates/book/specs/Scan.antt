-- What the search of the entries for a patch goes by.
use Rattle.std.specs.Prelude.{ℕ, ◌+◌, ◌<◌, ◌≤◌, ◌≡◌, true, false, List, ◌∷◌, ◌++◌, length, take, drop}
use Rattle.format.specs.Fault.{any}
use Rattle.refusal.specs.declared.Refusal.{Refusal}
use Rattle.refusal.specs.declared.Refusal.TheVariants.{Shared}
use Rattle.patching.specs.Entry.{Entry, insert}
use Rattle.patching.specs.Book.{others, clashes}
use Rattle.book.specs.declared.Place.{Place}

-- the list without its k-th element
abbrev pub remove_at : ℕ → List Entry → List Entry
remove_at k l = take k l ++ drop (k + 1) l

-- the list with e put ahead of its k-th element
abbrev pub insert_at : ℕ → Entry → List Entry → List Entry
insert_at k e l = take k l ++ (e ∷ drop k l)

-- l has so many entries of e's fixture: none, and then `own` is the end; or one, at `own`; or more
pub record Owned (e : Entry) (l : List Entry) (end own owns : ℕ) : Type 0 where
  pub as_many : owns + length (others e l) ≡ length l
  pub none : owns ≡ 0 → (own ≡ end) × (others e l ≡ l)
  pub one : owns ≡ 1 → (own < length l) × (remove_at own l ≡ others e l)

-- one of l has a channel of e and is of another fixture
abbrev pub Clashes : Entry → List Entry → Refusal → Type 0
Clashes e l r = (r ≡ Shared) × (any (clashes e) l ≡ true)

-- e was compared with the first of l, of which none clashes: it is listed behind the others of these and ahead of those from `next` on
pub record Ahead (e : Entry) (l : List Entry) (p : Place) : Type 0 where
  pub next : ℕ
  pub passed : p.to + p.own_count ≡ next
  pub within : next ≤ length l
  pub owned : Owned e (take next l) (length l) p.hole p.own_count
  pub clear : any (clashes e) l ≡ any (clashes e) (drop next l)
  pub stands : insert e (others e l) ≡ others e (take next l) ++ (e ∷ others e (drop next l))

-- none of l clashes, e's fixture has its entries there, and e is listed behind `to` of other fixtures
pub record Finds (e : Entry) (l : List Entry) (p : Place) : Type 0 where
  pub clear : any (clashes e) l ≡ false
  pub owned : Owned e l (length l) p.hole p.own_count
  pub stands : (p.to ≤ length (others e l)) × (insert e (others e l) ≡ insert_at p.to e (others e l))
