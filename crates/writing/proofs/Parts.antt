-- The calls that give a message: their bytes are its body, and where each was fit to be taken the message is valid.
use Prim.Native.Nat.{ℕ}
use mathlib.Core.Path.{◌≡◌, refl, ap, ◌∙◌}
use mathlib.Core.Bool.{false}
use mathlib.Core.List.{List, [], ◌∷◌, ◌++◌, map, append_assoc, append-nil}
use borrow.Author.Tests.{leb-false}
use lib.ListN.{length}
use Rattle.format.specs.Format.{number, ucs2, Value, encode, concat_map, All, Valid}
use Rattle.format.proofs.Codec.{encode-pair, encode-list}
use Rattle.format.specs.Fault.{holds_zero, over_limit, too_long}
use Rattle.format.proofs.Faults.{passed-is-valid, any-never}
use Rattle.format.proofs.Lists.{concat_map-append, concat_map-map, concat_map-parts, all-front, all-behind, all_map}
use Rattle.protocol.specs.Kind.{Kind, body_of, identifier_format, fixture_data_format, fixture_head, fixture_format, feed_name_format, laser_point_format}
use Rattle.protocol.specs.Kind.{LaserFeedFrame, name_limit}
use Rattle.writing.specs.Call.{Part, feed_name, laser_feed_frame, laser_point, fixture, identifier, fixture_data}
use Rattle.writing.specs.Call.{layout_of, layout_fits, layout_zero, layout_over, layout_long, part_bytes, head_of, identifiers_of, data_of, fixture_parts, parts_of}
use Rattle.writing.specs.Call.{Form, flat, fixtures, names, points, form, parts_in}

-- ---- the bytes

regroup : (a b c d e f n ids rest : List ℕ)
    → ((a ++ (b ++ (c ++ (d ++ (e ++ f))))) ++ n) ++ (ids ++ (rest ++ [])) ≡ a ++ (b ++ (c ++ (d ++ (e ++ (f ++ ((n ++ ids) ++ rest))))))
regroup a b c d e f n ids rest = simp (append_assoc, append-nil)

fixture-bytes : (x : Value fixture_format) → concat_map part_bytes (fixture_parts x) ≡ encode fixture_format x
unfolding concat_map encode
fixture-bytes x =
    let ids = identifiers_of x in
    ap (λ (t : List ℕ). part_bytes (fixture (head_of x) (length ids)) ++ t)
    (concat_map-append part_bytes (map identifier ids) (fixture_data (data_of x) ∷ [])
    ∙ ap (λ (t : List ℕ). t ++ (encode fixture_data_format (data_of x) ++ [])) (concat_map-map part_bytes identifier ids))
    ∙ regroup (encode (number 4) x.0) (encode (ucs2 name_limit) x.1.0) (encode (ucs2 name_limit) x.1.1.0)
    (encode (ucs2 name_limit) x.1.1.1.0)
    (encode (number 2) x.1.1.1.1.0) (encode (number 1) x.1.1.1.1.1.0) (encode (number 1) (length ids))
    (concat_map (encode identifier_format) ids) (encode fixture_data_format (data_of x))

frame-bytes : (v : Value (body_of LaserFeedFrame)) → concat_map part_bytes (parts_of LaserFeedFrame v) ≡ encode (body_of LaserFeedFrame) v
unfolding concat_map encode
frame-bytes v =
    let points = concat_map (encode laser_point_format) v.1.1.1 in
    ap (λ (t : List ℕ). part_bytes (laser_feed_frame v.0 v.1.0 v.1.1.0 (length v.1.1.1)) ++ t) (concat_map-map part_bytes laser_point v.1.1.1)
    ∙ in-turn (encode (number 4) v.0) (encode (number 1) v.1.0) (encode (number 4) v.1.1.0) (encode (number 2) (length v.1.1.1)) points
  where
    in-turn : (a b c n rest : List ℕ) → (a ++ (b ++ (c ++ n))) ++ rest ≡ a ++ (b ++ (c ++ (n ++ rest)))
    in-turn a b c n rest = simp append_assoc

pub parts-bytes : (k : Kind) (v : Value (body_of k)) → concat_map part_bytes (parts_of k v) ≡ encode (body_of k) v
unfolding concat_map
parts-bytes k v = by (form k) v
  where
    by : {k : Kind} (f : Form k) (v : Value (body_of k)) → concat_map part_bytes (parts_in f v) ≡ encode (body_of k) v
    by {k} flat v = append-nil (encode (body_of k) v)
    by fixtures v = simp (encode-pair, encode-list, append_assoc, concat_map-parts part_bytes fixture_parts (encode fixture_format) fixture-bytes v.1)
    by names v = simp (encode-pair, encode-list, append_assoc, concat_map-map)
    by points v = frame-bytes v

-- ---- the values

-- a part that is refused neither 11 nor 19 nor 12, of the types promised
abbrev pub FinePart : Part → Type 0
FinePart p = layout_fits (layout_of p) × (layout_zero (layout_of p) ≡ false) × (layout_over (layout_of p) ≡ false) × (layout_long (layout_of p) ≡ false)

fixture-valid : (x : Value fixture_format) → All FinePart (fixture_parts x) → Valid fixture_format x
unfolding holds_zero over_limit too_long
fixture-valid x h =
    let head = passed-is-valid fixture_head (head_of x) h.0.0 h.0.1 h.0.2 refl in
    let ids = all_map FinePart (Valid identifier_format) identifier
    (λ v f. passed-is-valid identifier_format v f.0 (any-never v.1) (any-never v.1) f.3) (identifiers_of x)
    (all-front FinePart (map identifier (identifiers_of x)) (fixture_data (data_of x) ∷ []) h.1) in
    let last = (all-behind FinePart (map identifier (identifiers_of x)) (fixture_data (data_of x) ∷ []) h.1).0 in
    let rest = passed-is-valid fixture_data_format (data_of x) last.0 last.1 last.2 refl in
    let count = leb-false 256 (length (identifiers_of x)) h.0.3 in
    (head.0, (head.1.0, (head.1.1.0, (head.1.1.1.0, (head.1.1.1.1.0, (head.1.1.1.1.1, ((count, ids), rest)))))))

fixtures-valid : (xs : List (Value fixture_format)) → All FinePart (concat_map fixture_parts xs) → All (Valid fixture_format) xs
unfolding concat_map
fixtures-valid [] h = tt
fixtures-valid (x ∷ xs) h =
    (fixture-valid x (all-front FinePart (fixture_parts x) (concat_map fixture_parts xs) h), fixtures-valid xs (all-behind FinePart (fixture_parts x) (concat_map fixture_parts xs) h))

pub parts-valid : (k : Kind) (v : Value (body_of k)) → All FinePart (parts_of k v) → Valid (body_of k) v
unfolding holds_zero over_limit too_long
parts-valid k v h = by (form k) v h
  where
    by : {k : Kind} (f : Form k) (v : Value (body_of k)) → All FinePart (parts_in f v) → Valid (body_of k) v
    by {k} flat v h = passed-is-valid (body_of k) v h.0.0 h.0.1 h.0.2 h.0.3
    by fixtures v h = (h.0.0, (leb-false 65536 (length v.1) h.0.3, fixtures-valid v.1 h.1))
    by names v h = (
      h.0.0,
      (
        leb-false 256 (length v.1) h.0.3,
        all_map FinePart (Valid feed_name_format) feed_name (λ x f. passed-is-valid feed_name_format x f.0 f.1 f.2 refl) v.1 h.1,
      ),
    )
    by points v h =
        let points = all_map FinePart (Valid laser_point_format) laser_point
        (λ x f. passed-is-valid laser_point_format x f.0 refl refl refl) v.1.1.1 h.1 in
        (h.0.0.0, (h.0.0.1.0, (h.0.0.1.1, (leb-false 65536 (length v.1.1.1) h.0.3, points))))
