-- Every message that can be sent is accepted: the calls that give it are all taken, from a fresh state, on an output with room for its packet.
use Prim.Native.Nat.{ℕ, suc, ◌+◌, ◌-◌, ◌^◌, ◌≤◌, ◌<◌}
use mathlib.Core.Path.{◌≡◌, refl, sym, ap, ◌∙◌, subst}
use mathlib.Core.Bool.{true, false, ◌&&◌}
use mathlib.Core.List.{List, [], ◌∷◌, ◌++◌, map, append_assoc, append-nil}
use native.Mathlib.Omega.{arith}
use native.Mathlib.Nat.{le_refl}
use borrow.Author.Tests.{lt-leb, lt-ltb, le-leb, eq-eqb}
use lib.ListN.{length, length-append, replicate, length-replicate}
use lib.Seq.{sets, length-sets}
use Rattle.format.specs.Format.{Format, number, code, ◌&◌, Value, encode, size, concat_map, All, Valid}
use Rattle.format.specs.Fault.{limit}
use Rattle.format.proofs.Faults.{valid-no-zero, valid-not-over, valid-not-long, valid-fits}
use Rattle.format.proofs.Lists.{all_append, all_of_map}
use Rattle.format.proofs.Width.{size-is-length}
use Rattle.protocol.specs.Layer.{header_length}
use Rattle.protocol.specs.Kind.{Kind, index, layer, body_of, same_kind}
use Rattle.protocol.specs.Kind.{identifier_format, fixture_data_format, fixture_head, fixture_format, feed_name_format, laser_point_format}
use Rattle.protocol.specs.Kind.{FixtureList, LaserFeedList, LaserFeedFrame}
use Rattle.protocol.specs.Message.{Message, headers_of, packet_size, Sendable}
use Rattle.protocol.proofs.Headers.{length-headers}
use Rattle.writing.specs.Call.{Layout, plain, counted, layout_fits, layout_zero, layout_over, layout_long, Part, feed_name, laser_point, identifier, fixture_data}
use Rattle.writing.specs.Call.{opens, give, closes, Typed, part_bytes, head_of, identifiers_of, data_of, fixture_parts, parts_of, calls_of}
use Rattle.writing.specs.Call.{Form, flat, fixtures, names, points, form, is_flat_form, parts_in}
use Rattle.writing.specs.Writer.{Turn, is_flat, idle, body_due, items_due, parts_due, part_in_turn, next_part, behind_headers, Writer, Outcome, Progress, step, run}
use Rattle.writing.proofs.Taken.{Taken, is-taken}
use Rattle.stream.specs.Accepted.{after, closing, closed_bytes, Accepted}
use Rattle.stream.specs.Claims as claims
use Rattle.writing.proofs.Parts.{FinePart, parts-bytes}
use Rattle.stream.proofs.Written.{accepted-is}

-- ---- a valid value is given in parts that are refused neither 11 nor 19 nor 12

-- of the types promised, and refused neither 11 nor 19 nor 12
abbrev Fine : Layout → Type 0
Fine l = layout_fits l × (layout_zero l ≡ false) × (layout_over l ≡ false) × (layout_long l ≡ false)

plain-fine : (f : Format) (v : Value f) → Valid f v → Fine (plain f v)
plain-fine f v h = (valid-fits f v h, valid-no-zero f v h, valid-not-over f v h, valid-not-long f v h)

counted-fine : (f : Format) (v : Value f) (w n : ℕ) → Valid f v → n < 256 ^ w → Fine (counted f v w n)
counted-fine f v w n h l = (valid-fits f v h, valid-no-zero f v h, valid-not-over f v h, rw (valid-not-long f v h) (lt-leb (256 ^ w) n l))

fixture-fine : (x : Value fixture_format) → Valid fixture_format x → All FinePart (fixture_parts x)
fixture-fine x h =
    let head : Valid fixture_head (head_of x) = (h.0, (h.1.0, (h.1.1.0, (h.1.1.1.0, (h.1.1.1.1.0, h.1.1.1.1.1.0))))) in
    let ids = h.1.1.1.1.1.1.0 in (
      counted-fine fixture_head (head_of x) 1 (length (identifiers_of x)) head ids.0,
      all_append FinePart (map identifier (identifiers_of x)) (fixture_data (data_of x) ∷ [])
          (all_of_map FinePart (Valid identifier_format) identifier (plain-fine identifier_format) (identifiers_of x) ids.1)
          (plain-fine fixture_data_format (data_of x) h.1.1.1.1.1.1.1, tt),
    )

fixtures-fine : (xs : List (Value fixture_format)) → All (Valid fixture_format) xs → All FinePart (concat_map fixture_parts xs)
unfolding concat_map
fixtures-fine [] h = tt
fixtures-fine (x ∷ xs) h = all_append FinePart (fixture_parts x) (concat_map fixture_parts xs) (fixture-fine x h.0) (fixtures-fine xs h.1)

parts-fine : (k : Kind) (v : Value (body_of k)) → Valid (body_of k) v → All FinePart (parts_of k v)
parts-fine k v h = by (form k) v h
  where
    by : {k : Kind} (f : Form k) (v : Value (body_of k)) → Valid (body_of k) v → All FinePart (parts_in f v)
    by {k} flat v h = (plain-fine (body_of k) v h, tt)
    by fixtures v h = (counted-fine (code 3 9) v.0 2 (length v.1) h.0 h.1.0, fixtures-fine v.1 h.1.1)
    by names v h = (
      counted-fine (number 4) v.0 1 (length v.1) h.0 h.1.0,
      all_of_map FinePart (Valid feed_name_format) feed_name (plain-fine feed_name_format) v.1 h.1.1,
    )
    by points v h = (
      counted-fine (number 4 & number 1 & number 4) (v.0, (v.1.0, v.1.1.0)) 2 (length v.1.1.1) (h.0, (h.1.0, h.1.1.0)) h.1.1.1.0,
      all_of_map FinePart (Valid laser_point_format) laser_point (plain-fine laser_point_format) v.1.1.1 h.1.1.1.1,
    )

-- ---- the parts are given in turn

-- the place before which an open state is made up
abbrev floor : Turn → ℕ
floor idle = 0
floor (body_due k) = header_length (layer k)
floor (items_due k n) = header_length (layer k)
floor (parts_due n i) = header_length (layer FixtureList)

floor-behind : (t : Turn) (at : ℕ) → floor t ≤ at → behind_headers t at ≡ true
floor-behind idle at h = refl
floor-behind (body_due k) at h = le-leb (header_length (layer k)) at h
floor-behind (items_due k n) at h = le-leb (header_length (layer k)) at h
floor-behind (parts_due n i) at h = le-leb (header_length (layer FixtureList)) at h

-- each part is due where the one before has led
pub data Turns : Turn → List Part → Turn → Type 0 where
  stay : {t : Turn} → Turns t [] t
  go : {t u : Turn} {p : Part} {ps : List Part} → part_in_turn p t ≡ true → floor (next_part p t) ≤ floor t → Turns (next_part p t) ps u → Turns t (p ∷ ps) u

turns-on : {t u v : Turn} {ps qs : List Part} → Turns t ps u → Turns u qs v → Turns t (ps ++ qs) v
turns-on stay k = k
turns-on (go e l h) k = go e l (turns-on h k)

names-turns : (xs : List (List ℕ)) → Turns (items_due LaserFeedList (length xs)) (map feed_name xs) (items_due LaserFeedList 0)
names-turns [] = stay
names-turns (x ∷ xs) =
    let less : suc (length xs) - 1 ≡ length xs = omega arith in
    let rest : Turns (items_due LaserFeedList (suc (length xs) - 1)) (map feed_name xs) (items_due LaserFeedList 0) = rw less (names-turns xs) in
    go (lt-ltb 0 (suc (length xs)) (omega arith)) (le_refl 24) rest

points-turns : (xs : List (Value laser_point_format)) → Turns (items_due LaserFeedFrame (length xs)) (map laser_point xs) (items_due LaserFeedFrame 0)
points-turns [] = stay
points-turns (x ∷ xs) =
    let less : suc (length xs) - 1 ≡ length xs = omega arith in
    let rest : Turns (items_due LaserFeedFrame (suc (length xs) - 1)) (map laser_point xs) (items_due LaserFeedFrame 0) = rw less (points-turns xs) in
    go (lt-ltb 0 (suc (length xs)) (omega arith)) (le_refl 24) rest

identifiers-turns : (n : ℕ) (xs : List (Value identifier_format)) → Turns (parts_due n (length xs)) (map identifier xs) (parts_due n 0)
identifiers-turns n [] = stay
identifiers-turns n (x ∷ xs) =
    let less : suc (length xs) - 1 ≡ length xs = omega arith in
    let rest : Turns (parts_due n (suc (length xs) - 1)) (map identifier xs) (parts_due n 0) = rw less (identifiers-turns n xs) in
    go (lt-ltb 0 (suc (length xs)) (omega arith)) (le_refl 24) rest

fixture-turns : (n : ℕ) (x : Value fixture_format) → Turns (items_due FixtureList (suc n)) (fixture_parts x) (items_due FixtureList n)
fixture-turns n x =
    let less : suc n - 1 ≡ n = omega arith in
    let last : Turns (parts_due n 0) (fixture_data (data_of x) ∷ []) (items_due FixtureList n) = go refl (le_refl 24) stay in
    let rest : Turns (parts_due (suc n - 1) (length (identifiers_of x))) (map identifier (identifiers_of x) ++ (fixture_data (data_of x) ∷ [])) (items_due FixtureList n) =
    rw less (turns-on (identifiers-turns n (identifiers_of x)) last) in
    go (lt-ltb 0 (suc n) (omega arith)) (le_refl 24) rest

fixtures-turns : (xs : List (Value fixture_format)) → Turns (items_due FixtureList (length xs)) (concat_map fixture_parts xs) (items_due FixtureList 0)
unfolding concat_map
fixtures-turns [] = stay
fixtures-turns (x ∷ xs) = turns-on (fixture-turns (length xs) x) (fixtures-turns xs)

parts-turns : (k : Kind) (v : Value (body_of k)) → Turns (body_due k) (parts_of k v) (items_due k 0)
parts-turns k v = by (form k) refl v
  where
    by : {k : Kind} (f : Form k) → is_flat k ≡ is_flat_form f → (v : Value (body_of k)) → Turns (body_due k) (parts_in f v) (items_due k 0)
    by {k} flat e v =
        let due : (is_flat k && same_kind k k) ≡ true = rw (e, eq-eqb (index k) (index k) refl) in
        go due (le_refl (header_length (layer k))) stay
    by fixtures e v = go refl (le_refl 24) (fixtures-turns v.1)
    by names e v = go refl (le_refl 24) (names-turns v.1)
    by points e v = go refl (le_refl 24) (points-turns v.1.1.1)

-- ---- they are taken

-- after some parts: the turn, the place, an output of the same length, and the parts noted
pub record Ran (s : Progress) (t : Turn) (n : ℕ) (ps : List Part) (r : Progress) : Type 0 where
  pub turn_is : r.writer.turn ≡ t
  pub at-is : r.writer.at ≡ s.writer.at + n
  pub room-is : length r.output ≡ length s.output
  pub noted-are : r.taken ≡ s.taken ++ map give ps

-- the world after a taken part
abbrev given : Part → Progress → Progress
given p s = record {
  writer = record { turn = next_part p s.writer.turn; at = s.writer.at + length (part_bytes p) };
  output = sets s.output s.writer.at (part_bytes p);
  taken = s.taken ++ (give p ∷ []);
}

step-taken : (p : Part) (s : Progress) → Taken (give p) s.writer s.output → step (give p) s ≡ given p s
unfolding step
step-taken p s t = rw (is-taken (give p) s.writer s.output t)

runs : (ps : List Part) (s : Progress) (u : Turn) → Turns s.writer.turn ps u → All FinePart ps → floor s.writer.turn ≤ s.writer.at
    → s.writer.at + length (concat_map part_bytes ps) ≤ limit → s.writer.at + length (concat_map part_bytes ps) ≤ length s.output
    → Ran s u (length (concat_map part_bytes ps)) ps (run (map give ps) s)
unfolding run concat_map
runs ps s u stay h f l m = record { turn_is = refl; at-is = omega arith; room-is = refl; noted-are = sym (append-nil s.taken) }
runs ps s u (go {p = p} {ps = qs} e low k) h f l m =
    let at = s.writer.at in
    let long : length (part_bytes p ++ concat_map part_bytes qs) ≡ length (part_bytes p) + length (concat_map part_bytes qs) = length-append (part_bytes p) (concat_map part_bytes qs) in
    let t : Taken (give p) s.writer s.output = record {
      in-turn = e;
      behind = floor-behind s.writer.turn at f;
      no_zero = h.0.1;
      not-over = h.0.2;
      not-long = h.0.3;
      within = omega arith;
      has_room = omega arith;
    } in
    let same : length (sets s.output at (part_bytes p)) ≡ length s.output = length-sets s.output at (part_bytes p) in
    let r = runs qs (given p s) u k h.1 (omega arith) (omega arith) (omega arith) in
    subst (λ (x : Progress). Ran s u (length (part_bytes p ++ concat_map part_bytes qs)) (p ∷ qs) (run (map give qs) x)) (sym (step-taken p s t)) (record {
      turn_is = r.turn_is;
      at-is = omega (arith, r.at-is);
      room-is = r.room-is ∙ same;
      noted-are = r.noted-are ∙ append_assoc s.taken (give p ∷ []) (map give qs);
    })

-- ---- a whole message

-- the world after a taken open on a fresh state
abbrev opened_on : Message → List ℕ → Progress
opened_on m o = record {
  writer = record { turn = body_due m.kind; at = 0 + length (headers_of m.kind 0 m.request m.hint) };
  output = sets o 0 (headers_of m.kind 0 m.request m.hint);
  taken = opens m.kind m.request m.hint ∷ [];
}

abbrev fresh : Writer
fresh = record { turn = idle; at = 0 }

step-opened : (m : Message) (o : List ℕ) → Taken (opens m.kind m.request m.hint) fresh o
    → step (opens m.kind m.request m.hint) (record { writer = fresh; output = o; taken = [] }) ≡ opened_on m o
unfolding step
step-opened m o t = rw (is-taken (opens m.kind m.request m.hint) fresh o t)

message-runs : (m : Message) → Sendable m → (o : List ℕ) → length o ≡ packet_size m
    → Ran (opened_on m o) (items_due m.kind 0) (length (encode (body_of m.kind) m.value)) (parts_of m.kind m.value) (after (calls_of m) fresh o)
unfolding run packet_size
message-runs m ok o e =
    let k = m.kind in
    let hs = headers_of k 0 m.request m.hint in
    let ps = parts_of k m.value in
    let bytes-are : concat_map part_bytes ps ≡ encode (body_of k) m.value = parts-bytes k m.value in
    let short : length hs ≡ header_length (layer k) = length-headers k 0 m.request m.hint in
    let long : length (encode (body_of k) m.value) ≡ size (body_of k) m.value = sym (size-is-length (body_of k) m.value) in
    let most : packet_size m ≤ limit = ok.within in
    let t : Taken (opens k m.request m.hint) fresh o = record {
      in-turn = refl;
      behind = refl;
      no_zero = refl;
      not-over = refl;
      not-long = refl;
      within = omega arith;
      has_room = omega arith;
    } in
    let same : length (sets o 0 hs) ≡ length o = length-sets o 0 hs in
    let all : length (concat_map part_bytes ps) ≡ size (body_of k) m.value = ap length bytes-are ∙ long in
    let r = runs ps (opened_on m o) (items_due k 0) (parts-turns k m.value) (parts-fine k m.value ok.valid) (omega arith) (omega arith) (omega arith) in
    subst (λ (x : Progress). Ran (opened_on m o) (items_due k 0) (length (encode (body_of k) m.value)) ps (run (map give ps) x)) (sym (step-opened m o t))
    (subst (λ (b : List ℕ). Ran (opened_on m o) (items_due k 0) (length b) ps (run (map give ps) (opened_on m o))) bytes-are r)

typed-calls : (m : Message) → Sendable m → All Typed (calls_of m)
typed-calls m ok =
    let ps = parts_of m.kind m.value in
    let fine = parts-fine m.kind m.value ok.valid in (
      (ok.request_fits, ok.hint-fits),
      all_of_map Typed FinePart give (λ p h. h.0) ps fine,
    )

closes-taken : (m : Message) → Sendable m → (o : List ℕ) → length o ≡ packet_size m → Taken closes (after (calls_of m) fresh o).writer (after (calls_of m) fresh o).output
unfolding packet_size
closes-taken m ok o e =
    let k = m.kind in
    let s = after (calls_of m) fresh o in
    let r = message-runs m ok o e in
    let hs = headers_of k 0 m.request m.hint in
    let short : length hs ≡ header_length (layer k) = length-headers k 0 m.request m.hint in
    let long : length (encode (body_of k) m.value) ≡ size (body_of k) m.value = sym (size-is-length (body_of k) m.value) in
    let most : packet_size m ≤ limit = ok.within in
    let at : s.writer.at ≡ 0 + length hs + length (encode (body_of k) m.value) = r.at-is in
    let room : length s.output ≡ length (sets o 0 hs) = r.room-is in
    let same : length (sets o 0 hs) ≡ length o = length-sets o 0 hs in
    let low : header_length (layer k) ≤ s.writer.at = omega arith in
    record {
      in-turn = rw r.turn_is;
      behind = rw r.turn_is (le-leb (header_length (layer k)) s.writer.at low);
      no_zero = refl;
      not-over = refl;
      not-long = refl;
      within = omega arith;
      has_room = omega arith;
    }

pub accepts : claims.Accepts
accepts m ok =
    let o : List ℕ = replicate (packet_size m) 0 in
    let e : length o ≡ packet_size m = length-replicate {A = ℕ} (packet_size m) 0 in
    let s = after (calls_of m) fresh o in
    let c = is-taken closes s.writer s.output (closes-taken m ok o e) in
    let a : Accepted (closed_bytes (closing s).output) m = record {
      calls = calls_of m;
      writer = fresh;
      output = o;
      typed = typed-calls m ok;
      fresh = refl;
      gave = (message-runs m ok o e).noted-are;
      closed = ap (λ (r : Outcome). r.number) c;
      stands = refl;
    } in
    subst (λ (b : List ℕ). Accepted b m) (accepted-is (closed_bytes (closing s).output) m a).1 a
