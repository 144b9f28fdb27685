-- Which calls have been taken since the open, by whose turn it is.
use Prim.Native.Nat.{ℕ, suc, ◌+◌, ◌-◌, ◌<◌}
use mathlib.Core.Path.{◌≡◌, refl, sym, ap, ◌∙◌, subst}
use mathlib.Core.Bool.{true, false, false≢true}
use mathlib.Core.List.{List, [], ◌∷◌, ◌++◌, map, append_assoc, append-nil}
use native.Mathlib.Omega.{arith}
use borrow.Author.Tests.{eqb-true, ltb-true}
use lib.ListN.{length, length-append}
use lib.Dec.{ltb}
use Rattle.format.specs.Format.{Value, concat_map}
use Rattle.format.proofs.Lists.{concat_map-append, map-append}
use Rattle.protocol.specs.Kind.{Kind, body_of, same_kind, identifier_format, fixture_data_format, fixture_head, fixture_format, laser_point_format}
use Rattle.protocol.specs.Kind.{FixtureList, LaserFeedList, LaserFeedFrame}
use Rattle.protocol.specs.Message.{Message}
use Rattle.protocol.proofs.Every.{same_kind_lem}
use Rattle.writing.specs.Call.{Part, body, laser_feed_list, feed_name, laser_feed_frame, laser_point, fixture_list, fixture, identifier, fixture_data}
use Rattle.writing.specs.Call.{Call, opens, give, fixture_parts, Form, form, is_flat_form, parts_in, parts_of, calls_of}
use Rattle.writing.specs.Call as call
use Rattle.writing.specs.Writer.{Turn, idle, body_due, items_due, parts_due, is_idle, is_body, is_item, is_identifier, is_data, is_close, is_flat, part_in_turn, left, identifiers_left, next_part}
use Rattle.format.proofs.Bools.{both}

-- ---- the taken calls, by turn

-- an open
pub data Opened (k : Kind) (cs : List Call) : Type 0 where
  opened : (r h : ℕ) → cs ≡ opens k r h ∷ [] → Opened k cs

-- a flat body; or a list's head and its first items, with so many left
pub data Given (cs : List Call) : Kind → ℕ → Type 0 where
  flat : (k : Kind) (r h : ℕ) (v : Value (body_of k)) → is_flat k ≡ true → cs ≡ opens k r h ∷ map give (body k v ∷ []) → Given cs k 0
  names : (r h key count n : ℕ) (xs : List (List ℕ)) → length xs + n ≡ count
      → cs ≡ opens LaserFeedList r h ∷ map give (laser_feed_list key count ∷ map feed_name xs) → Given cs LaserFeedList n
  points : (r h key feed sequence count n : ℕ) (xs : List (Value laser_point_format)) → length xs + n ≡ count
      → cs ≡ opens LaserFeedFrame r h ∷ map give (laser_feed_frame key feed sequence count ∷ map laser_point xs) → Given cs LaserFeedFrame n
  fixtures : (r h type count n : ℕ) (xs : List (Value fixture_format)) → length xs + n ≡ count
      → cs ≡ opens FixtureList r h ∷ map give (fixture_list type count ∷ concat_map fixture_parts xs) → Given cs FixtureList n

-- in a fixture: its head and its first identifiers, with so many fixtures left behind it and so many identifiers left
pub data InFixture (cs : List Call) (n i : ℕ) : Type 0 where
  in-fixture : (r h type count idents : ℕ) (xs : List (Value fixture_format)) (v : Value fixture_head) (ids : List (Value identifier_format))
      → length xs + suc n ≡ count → length ids + i ≡ idents
      → cs ≡ opens FixtureList r h ∷ map give (fixture_list type count ∷ (concat_map fixture_parts xs ++ (fixture v idents ∷ map identifier ids)))
      → InFixture cs n i

abbrev pub Shape : Turn → List Call → Type 0
Shape idle cs = Unit {0}
Shape (body_due k) cs = Opened k cs
Shape (items_due k n) cs = Given cs k n
Shape (parts_due n i) cs = InFixture cs n i

-- ---- what a turn tells

opened-at : (k : Kind) (t : Turn) (cs : List Call) → is_body k t ≡ true → Shape t cs → Opened k cs
opened-at k idle cs e h = absurd (false≢true e)
opened-at k (body_due j) cs e h = subst (λ (i : Kind). Opened i cs) (same_kind_lem j k e) h
opened-at k (items_due j n) cs e h = absurd (false≢true e)
opened-at k (parts_due n i) cs e h = absurd (false≢true e)

items_at : (k : Kind) (t : Turn) (cs : List Call) → is_item k t ≡ true → Shape t cs → Given cs k (left t) × (0 < left t)
items_at k idle cs e h = absurd (false≢true e)
items_at k (body_due j) cs e h = absurd (false≢true e)
items_at k (items_due j n) cs e h = (
  subst (λ (i : Kind). Given cs i n) (same_kind_lem j k (both (same_kind j k) (ltb 0 n) e).0) h,
  ltb-true 0 n (both (same_kind j k) (ltb 0 n) e).1,
)
items_at k (parts_due n i) cs e h = absurd (false≢true e)

identifiers-at : (t : Turn) (cs : List Call) → is_identifier t ≡ true → Shape t cs → InFixture cs (left t) (identifiers_left t) × (0 < identifiers_left t)
identifiers-at idle cs e h = absurd (false≢true e)
identifiers-at (body_due j) cs e h = absurd (false≢true e)
identifiers-at (items_due j n) cs e h = absurd (false≢true e)
identifiers-at (parts_due n i) cs e h = (h, ltb-true 0 i e)

data-at : (t : Turn) (cs : List Call) → is_data t ≡ true → Shape t cs → InFixture cs (left t) 0
data-at idle cs e h = absurd (false≢true e)
data-at (body_due j) cs e h = absurd (false≢true e)
data-at (items_due j n) cs e h = absurd (false≢true e)
data-at (parts_due n i) cs e h = subst (InFixture cs n) (eqb-true i 0 e) h

-- ---- a taken call keeps the shape

body-given : (k : Kind) (v : Value (body_of k)) (cs : List Call) → is_flat k ≡ true → Opened k cs → Given (cs ++ (give (body k v) ∷ [])) k 0
body-given k v cs f (opened r h e) = flat k r h v f (rw e)

names-given : (key count : ℕ) (cs : List Call) → Opened LaserFeedList cs → Given (cs ++ (give (laser_feed_list key count) ∷ [])) LaserFeedList count
names-given key count cs (opened r h e) = names r h key count count [] (omega arith) (rw e)

name-given : (x : List ℕ) (cs : List Call) (n : ℕ) → Given cs LaserFeedList n → 0 < n → Given (cs ++ (give (feed_name x) ∷ [])) LaserFeedList (n - 1)
name-given x cs n (flat k r h v f e) l = absurd (omega arith)
name-given x cs n (names r h key count m xs q e) l =
    names r h key count (m - 1) (xs ++ (x ∷ [])) (omega (arith, length-append xs (x ∷ []))) (rw (e, map-append feed_name xs (x ∷ []), map-append give (map feed_name xs) (feed_name x ∷ [])))

frame-given : (key feed sequence count : ℕ) (cs : List Call) → Opened LaserFeedFrame cs → Given (cs ++ (give (laser_feed_frame key feed sequence count) ∷ [])) LaserFeedFrame count
frame-given key feed sequence count cs (opened r h e) = points r h key feed sequence count count [] (omega arith) (rw e)

point-given : (x : Value laser_point_format) (cs : List Call) (n : ℕ) → Given cs LaserFeedFrame n → 0 < n → Given (cs ++ (give (laser_point x) ∷ [])) LaserFeedFrame (n - 1)
point-given x cs n (flat k r h v f e) l = absurd (omega arith)
point-given x cs n (points r h key feed sequence count m xs q e) l =
    points r h key feed sequence count (m - 1) (xs ++ (x ∷ [])) (omega (arith, length-append xs (x ∷ [])))
    (rw (e, map-append laser_point xs (x ∷ []), map-append give (map laser_point xs) (laser_point x ∷ [])))

fixtures-given : (type count : ℕ) (cs : List Call) → Opened FixtureList cs → Given (cs ++ (give (fixture_list type count) ∷ [])) FixtureList count
unfolding concat_map
fixtures-given type count cs (opened r h e) = fixtures r h type count count [] (omega arith) (rw e)

fixture-given : (v : Value fixture_head) (idents : ℕ) (cs : List Call) (n : ℕ) → Given cs FixtureList n → 0 < n → InFixture (cs ++ (give (fixture v idents) ∷ [])) (n - 1) idents
fixture-given v idents cs n (flat k r h w f e) l = absurd (omega arith)
fixture-given v idents cs n (fixtures r h type count m xs q e) l =
    in-fixture r h type count idents xs v [] (omega arith) (omega arith) (rw (e, map-append give (concat_map fixture_parts xs) (fixture v idents ∷ [])))

identifier-given : (x : Value identifier_format) (cs : List Call) (n i : ℕ) → InFixture cs n i → 0 < i → InFixture (cs ++ (give (identifier x) ∷ [])) n (i - 1)
identifier-given x cs n i (in-fixture r h type count idents xs v ids q p e) l =
    in-fixture r h type count idents xs v (ids ++ (x ∷ [])) q (omega (arith, length-append ids (x ∷ [])))
    (rw (e, map-append identifier ids (x ∷ []))
    (ap (λ (t : List Call). opens FixtureList r h ∷ give (fixture_list type count) ∷ t)
    (sym (map-append give (concat_map fixture_parts xs ++ (fixture v idents ∷ map identifier ids)) (identifier x ∷ []))
    ∙ ap (map give) (append_assoc (concat_map fixture_parts xs) (fixture v idents ∷ map identifier ids) (identifier x ∷ [])))))

-- a fixture from its head, its identifiers and its data
abbrev fixture_from : Value fixture_head → List (Value identifier_format) → Value fixture_data_format → Value fixture_format
fixture_from v ids d = (v.0, (v.1.0, (v.1.1.0, (v.1.1.1.0, (v.1.1.1.1.0, (v.1.1.1.1.1, (ids, d)))))))

data-given : (d : Value fixture_data_format) (cs : List Call) (n : ℕ) → InFixture cs n 0 → Given (cs ++ (give (fixture_data d) ∷ [])) FixtureList n
unfolding concat_map
data-given d cs n (in-fixture r h type count idents xs v ids q p e) =
    let x = fixture_from v ids d in
    let known : length ids ≡ idents = omega arith in
    fixtures r h type count n (xs ++ (x ∷ [])) (omega (arith, length-append xs (x ∷ [])))
    (rw e
    (ap (λ (t : List Call). opens FixtureList r h ∷ give (fixture_list type count) ∷ t)
    (sym (map-append give (concat_map fixture_parts xs ++ (fixture v idents ∷ map identifier ids)) (fixture_data d ∷ []))
    ∙ ap (map give)
    (append_assoc (concat_map fixture_parts xs) (fixture v idents ∷ map identifier ids) (fixture_data d ∷ [])
    ∙ ap (λ (m : ℕ). concat_map fixture_parts xs ++ (fixture v m ∷ (map identifier ids ++ (fixture_data d ∷ [])))) (sym known)
    ∙ ap (λ (t : List Part). concat_map fixture_parts xs ++ t) (sym (append-nil (fixture_parts x)))
    ∙ sym (concat_map-append fixture_parts xs (x ∷ []))))))

pub shape-kept : (p : Part) (t : Turn) (cs : List Call) → part_in_turn p t ≡ true → Shape t cs → Shape (next_part p t) (cs ++ (give p ∷ []))
shape-kept (body k v) t cs e h = body-given k v cs (both (is_flat k) (is_body k t) e).0 (opened-at k t cs (both (is_flat k) (is_body k t) e).1 h)
shape-kept (laser_feed_list key count) t cs e h = names-given key count cs (opened-at LaserFeedList t cs e h)
shape-kept (feed_name x) t cs e h = let g = items_at LaserFeedList t cs e h in name-given x cs (left t) g.0 g.1
shape-kept (laser_feed_frame key feed sequence count) t cs e h = frame-given key feed sequence count cs (opened-at LaserFeedFrame t cs e h)
shape-kept (laser_point x) t cs e h = let g = items_at LaserFeedFrame t cs e h in point-given x cs (left t) g.0 g.1
shape-kept (fixture_list type count) t cs e h = fixtures-given type count cs (opened-at FixtureList t cs e h)
shape-kept (fixture v count) t cs e h = let g = items_at FixtureList t cs e h in fixture-given v count cs (left t) g.0 g.1
shape-kept (identifier x) t cs e h = let g = identifiers-at t cs e h in identifier-given x cs (left t) (identifiers_left t) g.0 g.1
shape-kept (fixture_data d) t cs e h = data-given d cs (left t) (data-at t cs e h)

-- a part is never due to an idle state
pub part-not-idle : (p : Part) (t : Turn) → part_in_turn p t ≡ true → is_idle t ≡ false
part-not-idle p (body_due k) e = refl
part-not-idle p (items_due k n) e = refl
part-not-idle p (parts_due n i) e = refl
part-not-idle (body k v) idle e = absurd (false≢true (both (is_flat k) false e).1)
part-not-idle (laser_feed_list key count) idle e = absurd (false≢true e)
part-not-idle (feed_name x) idle e = absurd (false≢true e)
part-not-idle (laser_feed_frame key feed sequence count) idle e = absurd (false≢true e)
part-not-idle (laser_point x) idle e = absurd (false≢true e)
part-not-idle (fixture_list type count) idle e = absurd (false≢true e)
part-not-idle (fixture v count) idle e = absurd (false≢true e)
part-not-idle (identifier x) idle e = absurd (false≢true e)
part-not-idle (fixture_data d) idle e = absurd (false≢true e)

-- ---- where close is due, the taken calls give a message

flat-parts : (k : Kind) (v : Value (body_of k)) → is_flat k ≡ true → body k v ∷ [] ≡ parts_of k v
flat-parts k v f = by (form k) v f
  where
    by : {k : Kind} (f : Form k) (v : Value (body_of k)) → is_flat_form f ≡ true → body k v ∷ [] ≡ parts_in f v
    by call.flat v e = refl
    by call.fixtures v e = absurd (false≢true e)
    by call.names v e = absurd (false≢true e)
    by call.points v e = absurd (false≢true e)

pub record Gave (cs : List Call) : Type 0 where
  pub message : Message
  pub gave : cs ≡ calls_of message

whole-given : (k : Kind) (n : ℕ) (cs : List Call) → Given cs k n → n ≡ 0 → Gave cs
whole-given k n cs (flat j r h v f e) z = record {
  message = record { kind = j; request = r; hint = h; value = v };
  gave = e ∙ ap (λ (ps : List Part). opens j r h ∷ map give ps) (flat-parts j v f);
}
whole-given k n cs (names r h key count m xs q e) z = record {
  message = record { kind = LaserFeedList; request = r; hint = h; value = (key, xs) };
  gave = let known : count ≡ length xs = omega arith in e ∙ ap (λ (c : ℕ). opens LaserFeedList r h ∷ map give (laser_feed_list key c ∷ map feed_name xs)) known;
}
whole-given k n cs (points r h key feed sequence count m xs q e) z = record {
  message = record { kind = LaserFeedFrame; request = r; hint = h; value = (key, (feed, (sequence, xs))) };
  gave = let known : count ≡ length xs = omega arith in
      e ∙ ap (λ (c : ℕ). opens LaserFeedFrame r h ∷ map give (laser_feed_frame key feed sequence c ∷ map laser_point xs)) known;
}
whole-given k n cs (fixtures r h type count m xs q e) z = record {
  message = record { kind = FixtureList; request = r; hint = h; value = (type, xs) };
  gave = let known : count ≡ length xs = omega arith in
      e ∙ ap (λ (c : ℕ). opens FixtureList r h ∷ map give (fixture_list type c ∷ concat_map fixture_parts xs)) known;
}

pub close-gave : (t : Turn) (cs : List Call) → is_close t ≡ true → Shape t cs → Gave cs
close-gave idle cs e h = absurd (false≢true e)
close-gave (body_due k) cs e h = absurd (false≢true e)
close-gave (items_due k n) cs e h = whole-given k n cs h (eqb-true n 0 e)
close-gave (parts_due n i) cs e h = absurd (false≢true e)
