-- What a search has passed, and where it ends: of bytes and of units alike, as numbers by their index.
use Rattle.std.specs.Prelude.{ℕ, ◌+◌, ◌*◌, ◌≤◌, ◌<◌, ◌≡◌, List, get_or}

abbrev pub byte_of : List ℕ → ℕ → ℕ
byte_of s k = get_or s k 0

-- the k-th unit from an offset on
abbrev pub unit_of : List ℕ → ℕ → ℕ → ℕ
unit_of s at k = get_or s (at + 2 * k) 0 + 256 * get_or s (at + 2 * k + 1) 0

-- f is not zero at k and in the next rows of sixteen below it, m rows in all
pub record Rows (f : ℕ → ℕ) (k m : ℕ) : Type 0 where
  pub free : (l : ℕ) → l < m → f (k + 16 * l) ≡ 0 → ⊥

-- f is not zero from a up to b
pub record Free (f : ℕ → ℕ) (a b : ℕ) : Type 0 where
  pub rises : a ≤ b
  pub free : (k : ℕ) → a ≤ k → k < b → f k ≡ 0 → ⊥

-- r is the first zero of f from a up to m, or m
pub record First (f : ℕ → ℕ) (a m r : ℕ) : Type 0 where
  pub passed : Free f a r
  pub within : r ≤ m
  pub ends : r < m → f r ≡ 0
