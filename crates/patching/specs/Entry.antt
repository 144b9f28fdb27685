-- An entry of the patch book in one number: its four fields, who its fixture is, which channels it holds, which of two is listed first.
use Rattle.std.specs.Prelude.{ℕ, ◌+◌, ◌*◌, ◌/◌, ◌%◌, min, max, Bool, ◌&&◌, ◌||◌, List, [], ◌∷◌, ltb, leb, eqb}
use Rattle.format.specs.Format.{pick}

-- sixteen binary digits each for universe, channel, channel count and identifier, the universe highest; each field in its digits
abbrev pub Entry : Type 0
Entry = ℕ

unfoldable pub universe : Entry → ℕ
universe e = e / 281474976710656

unfoldable pub channel : Entry → ℕ
channel e = e / 4294967296 % 65536

unfoldable pub channel_count : Entry → ℕ
channel_count e = e / 65536 % 65536

unfoldable pub identifier : Entry → ℕ
identifier e = e % 65536

-- identifier, universe, channel and channel count; those of an entry, and the entry of them
abbrev pub Fields : Type 0
Fields = ℕ × ℕ × ℕ × ℕ

abbrev pub fields : Entry → Fields
fields e = (identifier e, universe e, channel e, channel_count e)

abbrev pub entry_of : Fields → Entry
entry_of f = f.1 * 281474976710656 + f.2 * 4294967296 + f.3 * 65536 + f.0

-- ---- by what a fixture is known

-- its identifier
abbrev pub Key : Type 0
Key = ℕ

-- the key of a fixture with these fields
abbrev pub key : Fields → Key
key f = f.0

-- two keys are of one fixture
abbrev pub same_key : Key → Key → Bool
same_key k j = eqb k j

-- two entries are of one fixture
abbrev pub same : Entry → Entry → Bool
same e x = same_key (key (fields e)) (key (fields x))

-- ---- the channels of an entry

-- the channel behind its last one
abbrev pub end : Entry → ℕ
end e = channel e + channel_count e

-- channel c is one of its channels
abbrev pub spans : Entry → ℕ → Bool
spans e c = leb (channel e) c && ltb c (end e)

-- it holds channel c of universe u
abbrev pub holds : ℕ → ℕ → Entry → Bool
holds u c e = eqb (universe e) u && spans e c

-- a channel is held by both
abbrev pub shares : Entry → Entry → Bool
shares e x = eqb (universe e) (universe x) && ltb (max (channel e) (channel x)) (min (end e) (end x))

-- ---- the order in which entries are listed

-- by universe, then by channel
abbrev pub before : Entry → Entry → Bool
before e x = ltb (universe e) (universe x) || (eqb (universe e) (universe x) && ltb (channel e) (channel x))

-- ahead of the first that it is before
unfoldable pub insert : Entry → List Entry → List Entry
insert e [] = e ∷ []
insert e (x ∷ l) = pick (before e x) (e ∷ x ∷ l) (x ∷ insert e l)
