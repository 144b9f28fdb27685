-- What the answer to a message says.
use Rattle.std.specs.Prelude.{ℕ, List, Result, Ok, Err}
use Rattle.patching.specs.Entry.{Entry}
use Rattle.refusal.specs.Number.{number}
use Rattle.refusal.specs.declared.Refusal.{Refusal}
use Rattle.book.specs.declared.Book.{Book}

-- its number, 0 where it is taken, the count of the book after it, which is the one before where it is refused, and the words lent
abbrev pub booked : ℕ → Result Book Refusal → List Entry → ℕ × ℕ × List Entry
booked count (Ok b) ws = (0, b.count, ws)
booked count (Err r) ws = (number r, count, ws)
