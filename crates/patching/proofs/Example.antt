-- Runs of a book by computation: the claims are not empty, an empty UPtc clears, 16 is tested before 17 before 18; two lists of messages that end
-- in the same entries are listed alike, by universe, then by channel.
use Prim.Native.Nat.{ℕ}
use mathlib.Core.Path.{◌≡◌, refl}
use mathlib.Core.List.{List, [], ◌∷◌, map}
use mathlib.Core.Option.{some}
use Rattle.format.specs.Format.{decode_number, decode_items, decode_cstring, decode}
use Rattle.format.specs.Fault.{any}
use Rattle.patching.specs.Bits.{many, first}
use Rattle.patching.specs.Entry.{Entry, identifier, universe, channel, channel_count, Fields, fields, insert}
use Rattle.patching.specs.Book.{filter, Message, ptch, uptc, change, answer, taken_in, free_in}
use Rattle.patching.specs.Claims.{feed, held_after}

-- the body of a Ptch without make and name, of an identifier, a universe and a channel below 256
abbrev pub patches : (i u c low high : ℕ) → Message
patches i u c low high = ptch (i ∷ 0 ∷ u ∷ 0 ∷ c ∷ 0 ∷ low ∷ high ∷ 0 ∷ 0 ∷ [])

abbrev pub messages : List Message
messages =
    patches 9 0 1 1 0  -- fixture 9 on channel 1
    ∷ uptc (0 ∷ 0 ∷ [])  -- none is named: the book is emptied
    ∷ patches 1 0 0 2 0  -- fixture 1 on channels 0 and 1
    ∷ patches 2 0 1 1 0  -- 17: channel 1 is held
    ∷ patches 2 0 0 1 2  -- 16: 513 channels, of which two are held
    ∷ patches 1 0 1 2 0  -- fixture 1 moves on to channels 1 and 2
    ∷ patches 2 0 0 1 0  -- so channel 0 is free
    ∷ patches 3 0 0 1 0  -- 17: channel 0 is held, and two fixtures are
    ∷ patches 3 1 0 1 0  -- 18: two fixtures are held
    ∷ ptch (3 ∷ [])  -- 7: the body is cut
    ∷ uptc (2 ∷ 0 ∷ 9 ∷ 0 ∷ 1 ∷ 0 ∷ [])  -- fixture 9 is not held, fixture 1 is dropped
    ∷ patches 3 1 0 1 0
    ∷ []

-- three fixtures; and again, by other messages
abbrev pub one_way : List Message
one_way = patches 1 1 0 1 0 ∷ patches 2 0 9 1 0 ∷ patches 3 0 4 1 0 ∷ []

abbrev pub other_way : List Message
other_way =
    patches 3 0 4 1 0
    ∷ patches 4 0 9 1 0  -- fixture 4 where fixture 2 will be
    ∷ patches 2 1 0 1 0
    ∷ patches 1 1 0 1 0  -- 17: fixture 2 is there
    ∷ uptc (1 ∷ 0 ∷ 4 ∷ 0 ∷ [])
    ∷ patches 2 0 9 1 0  -- fixture 2 moves
    ∷ patches 1 1 0 1 0
    ∷ []

-- the number of each message
unfoldable pub numbers : List Message → ℕ → List Entry → List ℕ
numbers [] count ws = []
numbers (m ∷ ms) count ws = (answer (change m) count ws).0 ∷ numbers ms (answer (change m) count ws).1 (answer (change m) count ws).2

pub numbers-given : numbers messages 0 (7 ∷ 7 ∷ []) ≡ 0 ∷ 0 ∷ 0 ∷ 17 ∷ 16 ∷ 0 ∷ 0 ∷ 17 ∷ 18 ∷ 7 ∷ 0 ∷ 0 ∷ []
unfolding numbers decode decode_number decode_items decode_cstring any filter insert identifier universe channel channel_count
numbers-given = refl

pub held_then : map fields (held_after messages 0 (7 ∷ 7 ∷ [])) ≡ (2, 0, 0, 1) ∷ (3, 1, 0, 1) ∷ []
unfolding feed decode decode_number decode_items decode_cstring any filter insert identifier universe channel channel_count
held_then = refl

pub taken_then : taken_in 0 (held_after messages 0 (7 ∷ 7 ∷ [])) ≡ 1
unfolding feed decode decode_number decode_items decode_cstring any filter insert identifier universe channel channel_count many
taken_then = refl

pub free-then : free_in 0 (held_after messages 0 (7 ∷ 7 ∷ [])) ≡ some 1
unfolding feed decode decode_number decode_items decode_cstring any filter insert identifier universe channel channel_count first
free-then = refl

abbrev pub in_order : List Fields
in_order = (3, 0, 4, 1) ∷ (2, 0, 9, 1) ∷ (1, 1, 0, 1) ∷ []

pub one-listed : map fields (held_after one_way 0 (7 ∷ 7 ∷ 7 ∷ [])) ≡ in_order
unfolding feed decode decode_number decode_items decode_cstring any filter insert identifier universe channel channel_count
one-listed = refl

pub other-listed : map fields (held_after other_way 0 (5 ∷ 5 ∷ 5 ∷ 5 ∷ [])) ≡ in_order
unfolding feed decode decode_number decode_items decode_cstring any filter insert identifier universe channel channel_count
other-listed = refl
