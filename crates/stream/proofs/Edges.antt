-- The edges, by computation: the table that is proved, and more of them.
use Prim.Native.Nat.{ℕ}
use mathlib.Core.Path.{◌≡◌, refl}
use mathlib.Core.Bool.{Bool, true, false}
use mathlib.Core.List.{[], ◌∷◌, ◌++◌}
use mathlib.Core.Option.{none, some}
use lib.ListN.{replicate}
use Rattle.format.specs.Format.{concat_map, decode_number, decode_items, decode_cstring, decode_ucs2, decode, encode_number, encode, size, total}
use Rattle.format.specs.Fault.{any, holds_zero, over_limit, too_long, weighed}
use Rattle.format.specs.View.{seen, missed, place, placed, view, look}
use Rattle.format.specs.Walk.{walk_from}
use Rattle.protocol.specs.Layer.{find, layer_of}
use Rattle.protocol.specs.Kind.{EnterShow, Fram, PNam, LaserFeedList, LaserFeedFrame, body_of, kind_of, identifier_format}
use Rattle.protocol.specs.Step.{unknown, refusal, read_body, content_at, step_at, walk, looked}
use Rattle.writing.specs.Call.{give, laser_feed_list, feed_name}
use Rattle.writing.specs.Writer.{body_due, items_due, weigh, apply}
use Rattle.stream.specs.Edges.{Edges}

pub edges : Edges
unfolding walk walk_from step_at content_at read_body layer_of kind_of find looked look view placed place size total decode decode_number decode_items decode_cstring decode_ucs2
edges = (refl, refl, refl, refl, refl, refl, refl, refl, refl, refl, refl, refl, refl, refl)

-- ---- more of them

-- an identifier's type above 5; the type 5 with no data
pub identifiers :
    (view identifier_format (6 ∷ 0 ∷ 0 ∷ []) 0 ≡ missed 10)
    × (view identifier_format (5 ∷ 0 ∷ 0 ∷ []) 0 ≡ seen (5, (3, 0)) 3)
unfolding view placed place size total decode decode_number decode_items
identifiers = (refl, refl)

-- laser feeds: none; a name without an end behind one that ends; a frame of one point, and cut in the point
pub laser-feeds :
    (view (body_of LaserFeedList) (1 ∷ 0 ∷ 0 ∷ 0 ∷ 0 ∷ []) 0 ≡ seen (1, (5, 0)) 5)
    × (view (body_of LaserFeedList) (1 ∷ 0 ∷ 0 ∷ 0 ∷ 2 ∷ 0x41 ∷ 0 ∷ 0 ∷ 0 ∷ 0x42 ∷ 0 ∷ 0 ∷ []) 0 ≡ missed 8)
    × (view (body_of LaserFeedFrame) (1 ∷ 0 ∷ 0 ∷ 0 ∷ 2 ∷ 3 ∷ 0 ∷ 0 ∷ 0 ∷ 1 ∷ 0 ∷ 4 ∷ 5 ∷ 6 ∷ 7 ∷ 8 ∷ []) 0 ≡ seen (1, (2, (3, (11, 1)))) 16)
    × (view (body_of LaserFeedFrame) (1 ∷ 0 ∷ 0 ∷ 0 ∷ 2 ∷ 3 ∷ 0 ∷ 0 ∷ 0 ∷ 1 ∷ 0 ∷ 4 ∷ 5 ∷ 6 ∷ 7 ∷ []) 0 ≡ missed 7)
unfolding view placed place size total decode decode_number decode_items decode_ucs2
laser-feeds = (refl, refl, refl, refl)

-- message_size 19, then 20 with an unknown layer, then 23 with SDMX
pub sizes :
    (walk (0x43 ∷ 0x49 ∷ 0x54 ∷ 0x50 ∷ 1 ∷ 0 ∷ 0 ∷ 0 ∷ 19 ∷ 0 ∷ 0 ∷ 0 ∷ 1 ∷ 0 ∷ 0 ∷ 0 ∷ 0x53 ∷ 0x44 ∷ 0x4D ∷ 0x58 ∷ []) ≡ ([], some (4, 0)))
    × (walk (0x43 ∷ 0x49 ∷ 0x54 ∷ 0x50 ∷ 1 ∷ 0 ∷ 0 ∷ 0 ∷ 20 ∷ 0 ∷ 0 ∷ 0 ∷ 1 ∷ 0 ∷ 0 ∷ 0 ∷ 1 ∷ 0 ∷ 0 ∷ 0 ∷ [])
    ≡ (record { offset = 0; size = 20; request = 0; content = unknown 1 none } ∷ [], some (0, 20)))
    × (walk (0x43 ∷ 0x49 ∷ 0x54 ∷ 0x50 ∷ 1 ∷ 0 ∷ 0 ∷ 0 ∷ 23 ∷ 0 ∷ 0 ∷ 0 ∷ 1 ∷ 0 ∷ 0 ∷ 0 ∷ 0x53 ∷ 0x44 ∷ 0x4D ∷ 0x58 ∷ 0 ∷ 0 ∷ 0 ∷ [])
    ≡ (record { offset = 0; size = 23; request = 0; content = refusal 6 } ∷ [], some (0, 23)))
unfolding walk walk_from step_at content_at read_body layer_of kind_of find decode decode_number
sizes = (refl, refl, refl)

-- a call out of turn is 14, whatever else is wrong; one in turn is weighed as any write, by the rows of `write-rows` (format)
pub writer-rows :
    (weigh false true true true 16777217 0 ≡ 14)
    × ((zeros over long : Bool) (end room : ℕ) → weigh true zeros over long end room ≡ weighed zeros over long end room)
writer-rows = (refl, λ zeros over long end room. refl)

-- 255 laser feed names are taken, 256 are 12; a state before its headers' end is 14
pub counts :
    ((apply (give (laser_feed_list 0 255)) (record { turn = body_due LaserFeedList; at = 24 }) (replicate 29 0)).number ≡ 0)
    × ((apply (give (laser_feed_list 0 256)) (record { turn = body_due LaserFeedList; at = 24 }) (replicate 29 0)).number ≡ 12)
    × ((apply (give (laser_feed_list 0 255)) (record { turn = body_due LaserFeedList; at = 23 }) (replicate 29 0)).number ≡ 14)
    × ((apply (give (laser_feed_list 0 255)) (record { turn = body_due LaserFeedList; at = 24 }) (replicate 28 0)).number ≡ 13)
unfolding apply encode encode_number holds_zero over_limit too_long
counts = (refl, refl, refl, refl)

-- a name of 255 bytes or units is read, one of 256 is 19, but 8 where it has no end; frame_names may be longer
pub limits :
    (view (body_of PNam) (replicate 255 0x41 ++ (0 ∷ [])) 0 ≡ seen (0, 255) 256)
    × (view (body_of PNam) (replicate 256 0x41 ++ (0 ∷ [])) 0 ≡ missed 19)
    × (view (body_of PNam) (replicate 256 0x41) 0 ≡ missed 8)
    × (view (body_of EnterShow) (concat_map (encode_number 2) (replicate 255 0x41) ++ (0 ∷ 0 ∷ [])) 0 ≡ seen (0, 255) 512)
    × (view (body_of EnterShow) (concat_map (encode_number 2) (replicate 256 0x41) ++ (0 ∷ 0 ∷ [])) 0 ≡ missed 19)
    × (view (body_of Fram) (1 ∷ 0 ∷ 2 ∷ 3 ∷ (replicate 256 0x41 ++ (0 ∷ []))) 0 ≡ seen (1, (2, (3, (4, 256)))) 261)
unfolding view placed place size decode decode_number decode_cstring decode_ucs2 encode_number concat_map
limits = (refl, refl, refl, refl, refl, refl)

-- a feed's name of 255 units is taken, one of 256 is 19, and 11 where it holds a zero too
pub feed-names :
    ((apply (give (feed_name (replicate 255 0x41))) (record { turn = items_due LaserFeedList 1; at = 29 }) (replicate 541 0)).number ≡ 0)
    × ((apply (give (feed_name (replicate 256 0x41))) (record { turn = items_due LaserFeedList 1; at = 29 }) (replicate 28 0)).number ≡ 19)
    × ((apply (give (feed_name (replicate 256 0))) (record { turn = items_due LaserFeedList 1; at = 29 }) (replicate 28 0)).number ≡ 11)
unfolding apply encode encode_number concat_map any holds_zero over_limit too_long
feed-names = (refl, refl, refl)
