-- What the marking of channels goes by.
use Rattle.std.specs.Prelude.{◌≡◌, ℕ, ◌<◌, ◌≤◌, Option, Some, None}
use Rattle.patching.specs.Entry.{Entry, universe, channel}

-- how far e's first channel is behind the first of universe u, if it is one of its 512
abbrev pub Offset : Entry → ℕ → Option ℕ → Type 0
Offset e u (Some r) = (r < 512) × (universe e ≡ u) × (channel e ≡ r)
Offset e u None = universe e ≡ u → 512 ≤ channel e
