-- The walk over a stream, by any step.
use Rattle.std.specs.Prelude.{ℕ, zero, suc, ◌+◌, ◌≡◌, List, [], ◌∷◌, length, drop}
use Rattle.std.proofs.Math.Option.{Option, none, some}
use Rattle.format.specs.Format.{total}

-- what a step gives: the end of the walk, its number, 0 at the stream's end, and its offset; or a report, and the offset of the next packet
pub data Step (R : Type 0) : Type 0 where
  stop : (number offset : ℕ) → Step R
  report : R → (next : ℕ) → Step R

-- the reports, and the number and the offset of the end, if the fuel lasted
abbrev pub Walked : Type 0 → Type 0
Walked R = List R × Option (ℕ × ℕ)

abbrev pub follow : {R : Type 0} → (ℕ → Walked R) → Step R → Walked R
follow onward (stop n at) = ([], some (n, at))
follow onward (report r next) = let more = onward next in (r ∷ more.0, more.1)

-- step by step, each at the offset that the step before gave
unfoldable pub walk_from : {R : Type 0} → (List ℕ → ℕ → Step R) → (fuel : ℕ) → List ℕ → ℕ → Walked R
walk_from step zero s at = ([], none)
walk_from step (suc fuel) s at = follow (walk_from step fuel s) (step s at)

-- a stream from its first byte: every packet takes a byte at least, so this fuel lasts
abbrev pub walk_all : {R : Type 0} → (List ℕ → ℕ → Step R) → List ℕ → Walked R
walk_all step s = walk_from step (suc (length s)) s 0

-- the reports due for packets that stand one behind another from an offset on
unfoldable pub reports : {P R : Type 0} → (P → List ℕ) → (ℕ → P → R) → ℕ → List P → List R
reports bytes expected at [] = []
reports bytes expected at (p ∷ ps) = expected at p ∷ reports bytes expected (at + length (bytes p)) ps

abbrev keep_one : {A : Type 0} → Option A → List A → List A
keep_one none xs = xs
keep_one (some x) xs = x ∷ xs

-- what k makes of the elements of which it makes something
unfoldable pub keep : {A B : Type 0} → (A → Option B) → List A → List B
keep k [] = []
keep k (x ∷ xs) = keep_one (k x) (keep k xs)

-- the walk ended, with a number of Last; the sizes walked and the unwalked rest make up the slice, and with 0 nothing is left
pub record Ended {R : Type 0} (Last : ℕ → Type 0) (size_of : R → ℕ) (s : List ℕ) (at : ℕ) (w : Walked R) : Type 0 where
  pub number : ℕ
  pub offset : ℕ
  pub ends : w.1 ≡ some (number, offset)
  pub last : Last number
  pub walked : at + total size_of w.0 ≡ offset
  pub makes_up : offset + length (drop offset s) ≡ length s
  pub whole : number ≡ 0 → offset ≡ length s
