-- The identifiers that an unpatch lists, and the bits by which it finds the entries to drop.
use Rattle.std.specs.Prelude.{◌≡◌, ℕ, ◌+◌, ◌*◌, ◌/◌, ◌%◌, ◌^◌, ◌<◌, ◌≤◌, Bool, ◌&&◌, ◌==◌, bit_or, nat_le, nat_lt}
use Rattle.std.specs.Prelude.{List, ◌++◌, length, take, drop, slice_index, slice_set, Option, Some, None}
use Rattle.format.specs.View.{units_of}
use Rattle.patching.specs.Bits.{packs}
use Rattle.patching.specs.Entry.{Entry, identifier}
use Rattle.patching.specs.Book.{without, overwrite, among}

-- the identifiers in a list's bytes, two each, the low one first; a lone last byte is none
abbrev pub identifiers_of : List ℕ → List ℕ
identifiers_of s = units_of (length s / 2) s

-- the i-th of them
abbrev pub listed_at : List ℕ → ℕ → ℕ
listed_at s i = slice_index s (2 * i) + 256 * slice_index s (2 * i + 1)

-- the first r entries stay where they are as identifiers are dropped
abbrev pub Stay : List ℕ → List Entry → ℕ → Type 0
Stay ids ws r = (r ≤ length ws) × (take r ws ++ without ids (drop r ws) ≡ without ids ws)

-- how many entries there are, and the words lent, after identifiers are dropped
pub record Dropped (ids : List ℕ) (ws : List Entry) (r : ℕ) (ws' : List Entry) : Type 0 where
  pub count : r ≡ length (without ids ws)
  pub words : ws' ≡ overwrite (without ids ws) ws

-- ---- bits

-- bit j of a list of words is set
abbrev pub has_bit : List ℕ → ℕ → Bool
has_bit ws j = slice_index ws (j / 64) / 2 ^ (j % 64) % 2 == 1

-- the words with bit j set
abbrev pub with_bit : List ℕ → ℕ → List ℕ
with_bit ws j = slice_set ws (j / 64) (bit_or (slice_index ws (j / 64)) (2 ^ (j % 64)))

-- ---- a range of 21,888 identifiers

-- an identifier lies in the range from base on
abbrev pub within : ℕ → ℕ → Bool
within base k = nat_le base k && nat_lt k (base + 21888)

-- an entry's identifier lies in it
abbrev pub lies_in : ℕ → Entry → Bool
lies_in base x = within base (identifier x)

-- how far k is behind base, if it lies in the range
abbrev pub Offset : ℕ → ℕ → Option ℕ → Type 0
Offset base k (Some r) = (r < 21888) × (base + r ≡ k)
Offset base k None = base ≤ k → base + 21888 ≤ k

-- the identifiers of the range that are listed, a bit each in 342 words
abbrev pub marks : ℕ → List ℕ → List ℕ
marks base ids = packs (λ (j : ℕ). among ids (base + j)) 0 342

-- ---- the entries, at most 256, a bit each in four words

-- the j-th entry's identifier is below a bound and listed
abbrev pub found : ℕ → List ℕ → List Entry → ℕ → Bool
found bound ids xs j = nat_lt j (length xs) && (nat_lt (identifier (slice_index xs j)) bound && among ids (identifier (slice_index xs j)))

-- their bits
abbrev pub found_below : ℕ → List ℕ → List Entry → List ℕ
found_below bound ids xs = packs (found bound ids xs) 0 4
