-- The patch book: what each message does to its entries, and what is asked of them.
use Rattle.std.specs.Prelude.{ℕ, zero, suc, min, Bool, true, not, ◌&&◌, ◌||◌, List, [], ◌∷◌, ◌++◌, map, length, take, drop, ltb, leb, eqb}
use Rattle.std.proofs.Math.Option.{Option, none, some}
use Rattle.std.proofs.Math.ListN.{get_elem?}
use Rattle.format.specs.Format.{Value, Read, got, refused, pick, decode}
use Rattle.format.specs.Fault.{any}
use Rattle.protocol.specs.Kind.{body_of, Ptch, UPtc}
use Rattle.patching.specs.Bits.{packs, many, first}
use Rattle.patching.specs.Entry.{Entry, universe, channel_count, Fields, fields, entry_of, Key, key, same, end, holds, shares, insert}

-- the elements that pass the test
unfoldable pub filter : {A : Type 0} → (A → Bool) → List A → List A
filter p [] = []
filter p (x ∷ l) = pick (p x) (x ∷ filter p l) (filter p l)

-- ---- messages

-- the body of a Ptch, or of a UPtc
pub data Message : Type 0 where
  ptch : List ℕ → Message
  uptc : List ℕ → Message

-- what a body asks for: a fixture patched, identifiers unpatched; or the number with which it is refused where it does not read
pub data Change : Type 0 where
  patch : Fields → Change
  unpatch : List ℕ → Change
  unread : ℕ → Change

-- what a Ptch says of its fixture
abbrev pub sent : Value (body_of Ptch) → Fields
sent (identifier, (universe, (reserved, (channel, (count, (make, name)))))) = (identifier, universe, channel, count)

-- what a Ptch asks for as it was read, and a UPtc
abbrev pub as_patch : Read (Value (body_of Ptch)) → Change
as_patch (got v rest) = patch (sent v)
as_patch (refused n) = unread n

abbrev pub as_unpatch : Read (Value (body_of UPtc)) → Change
as_unpatch (got v rest) = unpatch v
as_unpatch (refused n) = unread n

-- what a message asks for
abbrev pub change : Message → Change
change (ptch s) = as_patch (decode (body_of Ptch) s)
change (uptc s) = as_unpatch (decode (body_of UPtc) s)

-- ---- what a change does to the entries

-- an identifier is one of those that a UPtc lists
abbrev pub among : List ℕ → ℕ → Bool
among ids i = any (λ (j : ℕ). eqb j i) ids

-- a UPtc with these identifiers drops a fixture: one that they name; where there are none, every one
abbrev pub drops : List ℕ → Key → Bool
drops [] k = true
drops (i ∷ ids) k = among (i ∷ ids) k

-- the entries of fixtures that they do not drop
abbrev pub without : List ℕ → List Entry → List Entry
without ids l = filter (λ (x : Entry). not (drops ids (key (fields x)))) l

-- the entries of other fixtures
abbrev pub others : Entry → List Entry → List Entry
others e l = filter (λ (x : Entry). not (same e x)) l

-- the entries that a change leaves where it is taken
abbrev pub changed : Change → List Entry → List Entry
changed (patch f) l = insert (entry_of f) (others (entry_of f) l)
changed (unpatch ids) l = without ids l
changed (unread n) l = l

-- a channel count outside 1 to 512, or a span past channel 511
abbrev pub misfits : Entry → Bool
misfits e = ltb (channel_count e) 1 || ltb 512 (end e)

-- a channel is held by another fixture
abbrev pub clashes : Entry → Entry → Bool
clashes e x = not (same e x) && shares e x

-- a new fixture when as many are held as there is room for
abbrev pub is_full : ℕ → Entry → List Entry → Bool
is_full room e l = leb room (length l) && not (any (same e) l)

-- the first that applies, or 0
abbrev pub patch_number : ℕ → Entry → List Entry → ℕ
patch_number room e l = pick (misfits e) 16 (pick (any (clashes e) l) 17 (pick (is_full room e l) 18 0))

-- a change's number on a book with room for so many: 0 where it is taken
abbrev pub number : ℕ → Change → List Entry → ℕ
number room (patch f) l = patch_number room (entry_of f) l
number room (unpatch ids) l = 0
number room (unread n) l = n

-- by its number: what is new where it is taken, and else what was there
abbrev pub settled : {A : Type 0} → ℕ → A → A → A
settled zero new old = new
settled (suc n) new old = old

-- ---- the book: a count, and entries among the words lent

-- how many entries there is room for: 256, or as many as there are words
abbrev pub room_in : List Entry → ℕ
room_in ws = min 256 (length ws)

-- the entries held, whatever the count
abbrev pub held : ℕ → List Entry → List Entry
held count ws = take (min count 256) ws

-- entries put first among the words lent; those behind them stay
abbrev pub overwrite : List Entry → List Entry → List Entry
overwrite l ws = l ++ drop (length l) ws

-- a change's number, the count and the words lent after it; the count after a change that is taken is that of the entries held, so one
-- above 256, or above the words lent, goes down to it
abbrev pub answer : Change → ℕ → List Entry → ℕ × ℕ × List Entry
answer c count ws = (
  number (room_in ws) c (held count ws),
  settled (number (room_in ws) c (held count ws)) (length (changed c (held count ws))) count,
  settled (number (room_in ws) c (held count ws)) (overwrite (changed c (held count ws)) ws) ws,
)

-- ---- questions

-- channel c of universe u is held
abbrev pub taken_at : List Entry → ℕ → ℕ → Bool
taken_at l u c = any (holds u c) l

-- a universe's 512 channels as eight words of 64 binary digits
abbrev pub universe_words : (ℕ → Bool) → List ℕ
universe_words p = packs p 0 8

-- how many channels of a universe are taken
abbrev pub taken_in : ℕ → List Entry → ℕ
taken_in u l = many (taken_at l u) 512

-- a number if it is below a limit
abbrev pub below : ℕ → ℕ → Option ℕ
below limit c = pick (ltb c limit) (some c) none

-- the first free channel of a universe, if any
abbrev pub free_in : ℕ → List Entry → Option ℕ
free_in u l = below 512 (first (λ (c : ℕ). not (taken_at l u c)) 512)

-- the k-th entry, from 0, if any
abbrev pub entry_at : ℕ → List Entry → Option Fields
entry_at k l = get_elem? (map fields l) k
