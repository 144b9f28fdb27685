-- What a reader tests without keeping it: items passed over, bytes that are there, a code within its limit.
use Rattle.std.specs.Prelude.{ℕ, ◌+◌, ◌-◌, List, length, drop, ltb, leb}
use Rattle.format.specs.Format.{Format, Read, got, refused, pick, decode_items, decode, total, size}
use Rattle.format.specs.View.{Seen, seen, missed}

abbrev pub ended : {A : Type 0} → (A → ℕ) → ℕ → Read (List A) → Seen (Unit {0})
ended k at (got xs t) = seen tt (at + total k xs)
ended k at (refused n) = missed n

-- n items passed: the offset behind them, or the first refusal
unfoldable pub passed : (f : Format) → List ℕ → ℕ → ℕ → Seen (Unit {0})
passed f s at n = ended (size f) at (decode_items (decode f) n (drop at s))

-- the offset behind what was read, or its refusal
abbrev pub past : {A : Type 0} → Seen A → Seen (Unit {0})
past (seen a e) = seen tt e
past (missed k) = missed k

-- m bytes at an offset: the offset behind them, or 7
unfoldable pub room : List ℕ → ℕ → ℕ → Seen (Unit {0})
room s at m = pick (leb m (length s - at)) (seen tt (at + m)) (missed 7)

-- a code below a limit, or its refusal
unfoldable pub in_range : ℕ → ℕ → ℕ → Seen ℕ
in_range limit refusal c = pick (ltb c limit) (seen c 0) (missed refusal)
