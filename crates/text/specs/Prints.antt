-- A text printed at a place of a listing, of which an output holds a part.
use Rattle.std.specs.Prelude.{ℕ, ◌+◌, ◌-◌, min, max, ◌≡◌, List, length, drop}
use Rattle.std.proofs.lemmas.List.Edits.{sets}

-- the output holds the listing from a character on, as far as it reaches: the place where the text stops, or the output's end, and the output after it
pub record Prints (from : ℕ) (text : List ℕ) (at : ℕ) (before : List ℕ) (place : ℕ) (after : List ℕ) : Type 0 where
  pub stops : place ≡ min (at + length text) (max at (from + length before))
  pub stored : after ≡ sets before (at - from) (drop (from - at) text)
