-- What the answers of the parts of a packet tell of it: the layer, the layer header, the body.
use Prim.Native.Nat.{ℕ, ◌+◌, ◌-◌, ◌≤◌}
use mathlib.Core.Path.{◌≡◌, refl, ap, ◌∙◌}
use mathlib.Core.Bool.{Bool, true, false}
use mathlib.Core.List.{List}
use mathlib.Core.Option as math
use native.Mathlib.Nat.{add-zero}
use native.Mathlib.Omega.{arith}
use borrow.Author.Tests.{le-ltb}
use lib.ListN.{length, take, drop, length-drop}
use lib.Seq.{take_all}
use Rattle.format.specs.Format.{number, Value, Read, got, refused, decode_number, decode, size}
use Rattle.format.specs.View.{View, Seen, seen, missed, view, placed, place}
use Rattle.format.proofs.Views.{after, view-pair}
use Rattle.std.specs.Prelude.{Ok, Option, Some, None}
use Rattle.std.specs.Option.{MatchOption, IsSomeAnd}
use Rattle.protocol.specs.Layer.{Layer, cookie, header_length, has_hint, hint_length, layer_header}
use Rattle.protocol.specs.Kind.{Kind, body_of}
use Rattle.protocol.specs.Step.{Content, refusal, Body, known, content_of, read_body, read_layer_header, read_layer}
use Rattle.wire.specs.declared.Cursor.{Cursor}
use Rattle.wire.specs.Says.{message_says}
use Rattle.citp.specs.Says.{message_kind, message_view}
use Rattle.citp.specs.declared.Message.{Message}

-- ---- a body, by its layer

-- a message of a layer, if one was read, as one of any
abbrev pub As : {M : Type 0} → (M → Message) → Option (M × Cursor) → Option (Message × Cursor) → Type 0
As of o r = MatchOption o (r ≡ None) (λ x. IsSomeAnd r (λ y. y ≡ (of x.0, x.1)))

module _ {M : Type 0} (kind : M → Kind) (view : (m : M) → View (body_of (kind m))) (of : M → Message)
    (same : (m : M) (e : ℕ) → ◌≡◌ {A = Body View} (known (message_kind (of m)) (message_view (of m)) e) (known (kind m) (view m) e)) where
  pub read-as : (o : Option (M × Cursor)) (r : Option (Message × Cursor)) {b : Body View} → As of o r
      → message_says kind view (Ok o) ≡ b → message_says message_kind message_view (Ok r) ≡ b
  read-as None r e h = rw e h
  read-as (Some x) None e h = absurd e
  read-as (Some x) (Some y) e h = rw e (same x.0 x.1.at ∙ h)

-- ---- the layer header

no_bytes : (s : List ℕ) (at : ℕ) → view (number 0) s at ≡ seen 0 at
unfolding view placed place size decode decode_number
no_bytes s at = rw (add-zero at)

module _ (l : Layer) (s : List ℕ) where
  pub header-short : {k : ℕ} → view (number 4) s 20 ≡ missed k → missed k ≡ view (layer_header l) s 20
  unfolding after
  header-short e = rw (view-pair (number 4) (number (hint_length l)) s 20, e)

  pub header-bare : {b : Bool} {n e : ℕ} → b ≡ has_hint l → b ≡ false → view (number 4) s 20 ≡ seen n e → seen (n, 0) e ≡ view (layer_header l) s 20
  unfolding after
  header-bare {e = e} h z p = rw (view-pair (number 4) (number (hint_length l)) s 20, p, ← h, z, no_bytes s e)

  pub hint-short : {b : Bool} {n e k : ℕ} → b ≡ has_hint l → b ≡ true → view (number 4) s 20 ≡ seen n e → view (number 4) s e ≡ missed k
      → missed k ≡ view (layer_header l) s 20
  unfolding after
  hint-short h z p q = rw (view-pair (number 4) (number (hint_length l)) s 20, p, ← h, z, q)

  pub header-hinted : {b : Bool} {n e i d : ℕ} → b ≡ has_hint l → b ≡ true → view (number 4) s 20 ≡ seen n e → view (number 4) s e ≡ seen i d
      → seen (n, i) d ≡ view (layer_header l) s 20
  unfolding after
  header-hinted h z p q = rw (view-pair (number 4) (number (hint_length l)) s 20, p, ← h, z, q)

-- ---- a packet of a known layer

abbrev value_in : ℕ × ℕ → Seen (ℕ × ℕ) → ℕ × ℕ
value_in d (seen v e) = v
value_in d (missed k) = d

module _ (l : Layer) (at : ℕ) (p : List ℕ) where
  pub layer-unread : {k : ℕ} → header_length l ≤ length p → view (layer_header l) p 20 ≡ missed k → refusal 6 ≡ read_layer at (cookie l) p (math.some l)
  unfolding view placed
  layer-unread {k} h e = rw (le-ltb (length p) (header_length l) h) (by (decode (layer_header l) (drop 20 p)) e)
    where
      by : (r : Read (Value (layer_header l))) → placed (layer_header l) 20 r ≡ missed k → refusal 6 ≡ read_layer_header l at p r
      by (got t u) q = cc
      by (refused n) q = refl

  -- the body is the packet from its headers' end on
  pub layer-read : {x : Content View} {t : ℕ × ℕ} {e n : ℕ} → n ≡ header_length l → n ≤ length p → view (layer_header l) p 20 ≡ seen t e
      → (let b = take (length p - n) (drop n p) in x ≡ content_of l (at + header_length l) (length b) t.0 t.1 (read_body l t.0 b))
      → x ≡ read_layer at (cookie l) p (math.some l)
  unfolding view placed place
  layer-read {x} {t} {e} {n} z h q is = is ∙ rw (from-part, z, le-ltb (length p) (header_length l) (rw z at h)) (by (decode (layer_header l) (drop 20 p)) q)
    where
      from-part : take (length p - n) (drop n p) ≡ drop n p
      from-part = take_all (length p - n) (drop n p) (omega (arith, length-drop n p))

      by : (r : Read (Value (layer_header l))) → placed (layer_header l) 20 r ≡ seen t e
          → content_of l (at + header_length l) (length (drop (header_length l) p)) t.0 t.1 (read_body l t.0 (drop (header_length l) p))
          ≡ read_layer_header l at p r
      by (got v u) q = let same : v ≡ t = ap (value_in t) q in rw (same, length-drop (header_length l) p)
      by (refused k) q = cc
