-- Items of one width, of which none is looked at: what a reader of their format finds in each is that reader's to say.
use Rattle.std.specs.Prelude.{ℕ, ◌+◌, ◌-◌, ◌*◌, List, length, leb}
use Rattle.format.specs.Format.{number, pick}
use Rattle.format.specs.View.{Seen, seen, missed, view}

abbrev pub items_behind : (width : ℕ) → List ℕ → Seen ℕ → Seen (ℕ × ℕ)
items_behind width s (seen n e) = pick (leb (n * width) (length s - e)) (seen (e, n) (e + n * width)) (missed 7)
items_behind width s (missed k) = missed k

-- a count of two bytes and as many items: where the first one starts, and how many they are
unfoldable pub items_at : (width : ℕ) → List ℕ → ℕ → Seen (ℕ × ℕ)
items_at width s at = items_behind width s (view (number 2) s at)
