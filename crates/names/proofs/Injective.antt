-- A message's lines determine its fields: a field was read at some offset of the body, and what was read is listed alike only if it is equal.
use Prim.Native.Nat.{ℕ, zero, suc, ◌-◌}
use mathlib.Core.Path.{◌≡◌, refl, sym}
use mathlib.Core.Bool.{Bool, true, false}
use mathlib.Core.List.{List, [], ◌∷◌, ◌++◌, append_assoc, append-nil}
use lib.Dec.{ltb, eqb}
use Rattle.format.specs.Format.{Format, ◌&◌, pick, concat_map, All}
use Rattle.format.specs.View.{View, Seen, seen, missed, view, done, onward, go_on, stepped, steps}
use Rattle.format.proofs.Bools.{both}
use Rattle.format.proofs.Lists.{concat_map-append, all-behind}
use Rattle.format.proofs.Views.{after, view-pair}
use Rattle.protocol.specs.Kind.{Kind, body_of}
use Rattle.protocol.proofs.Every.{every, every-kind}
use Rattle.text.specs.Text.{chars, line}
use Rattle.lines.specs.Lines.{Listed, decimal_line, lines}
use Rattle.lines.proofs.Injective.{narrow, lines-injective}
use Rattle.names.specs.Claims.{Field, itself, first, second, item, MessageField, FieldLines, FieldsInjective}
use Rattle.names.specs.Names.{kind_name}
use Rattle.names.specs.Messages.{hint_lines, message_lines}

-- ---- a field's lines

-- a text with others before and behind it
abbrev In : List ℕ → List ℕ → Type 0
In t whole = (before : List ℕ) × (behind : List ℕ) × (whole ≡ before ++ (t ++ behind))

lines-in : {s : List ℕ} {g : Format} {m : Listed g} {x : View g} {f : Format} {l : Listed f} {v : View f} → Field s m x f l v → In (lines m s x) (lines l s v)
unfolding lines concat_map
lines-in {s} {m = m} {x = x} itself = ([], [], sym (append-nil (lines m s x)))
lines-in {s} (first {b = b} {w = w} h) = let i = lines-in h in (i.0, i.1 ++ lines b s w, rw (i.2, append_assoc, append_assoc) refl)
lines-in {s} (second {a = a} {v = v} h) = let i = lines-in h in (lines a s v ++ i.0, i.1, rw (i.2, append_assoc) refl)
lines-in {s} (item {n = n} {count = count} {l = l} {v = v} before behind e h) = let i = lines-in h in (
  decimal_line count n ++ (concat_map (lines l s) before ++ i.0),
  i.1 ++ concat_map (lines l s) behind,
  rw (e, concat_map-append (lines l s) before (v ∷ behind), i.2) (simp append_assoc),
)

pub field-lines : FieldLines
unfolding message_lines
field-lines k hint s g m x f = let i = lines-in f.field in
    (line (chars "kind") (chars (kind_name k)) ++ (hint_lines hint ++ i.0), i.1, rw i.2 (simp append_assoc))

-- ---- a field was read

abbrev ReadAt : (f : Format) → List ℕ → View f → Type 0
ReadAt f s v = (at : ℕ) × (e : ℕ) × (view f s at ≡ seen v e)

-- each of two things one behind the other
abbrev BothRead : (f g : Format) → List ℕ → Seen (View (f & g)) → Type 0
BothRead f g s (seen x e) = ReadAt f s x.0 × ReadAt g s x.1
BothRead f g s (missed n) = Unit {0}

both_read : (f g : Format) (s : List ℕ) (at : ℕ) → BothRead f g s (view (f & g) s at)
unfolding after
both_read f g s at = rw (view-pair f g s at) (front (view f s at) refl) where
  back : (a : View f) (e : ℕ) → view f s at ≡ seen a e → (r : Seen (View g)) → view g s e ≡ r → BothRead f g s (after r (λ b d. seen (a, b) d))
  back a e p (seen b d) q = ((at, e, p), (e, d, q))
  back a e p (missed n) q = tt

  front : (r : Seen (View f)) → view f s at ≡ r → BothRead f g s (after r (λ a e. after (view g s e) (λ b d. seen (a, b) d)))
  front (seen a e) p = back a e p (view g s e) refl
  front (missed n) p = tt

-- each item that is stepped through
items-read : (f : Format) (s : List ℕ) (k at n : ℕ) → All (ReadAt f s) (steps f k s at n)
unfolding steps stepped
items-read f s zero at n = tt
items-read f s (suc k) at n = by (eqb n 0) (view f s at) refl (λ e. items-read f s k e (n - 1)) where
  by : (b : Bool) (r : Seen (View f)) → view f s at ≡ r → ((e : ℕ) → All (ReadAt f s) (steps f k s e (n - 1)))
      → All (ReadAt f s) (go_on (pick b done (onward (n - 1) r)) (λ e m. steps f k s e m))
  by true r p rest = tt
  by false (seen a e) p rest = ((at, e, p), rest e)
  by false (missed j) p rest = tt

-- ---- the theorem

-- a field was read, and its numbers have at most eight bytes, if that is so of what it is a field of
field-read : {s : List ℕ} {g : Format} {m : Listed g} {x : View g} {f : Format} {l : Listed f} {v : View f} → Field s m x f l v
    → ReadAt f s v × (narrow f ≡ true) → ReadAt g s x × (narrow g ≡ true)
field-read itself p = p
field-read {s} (first {f = f} {h = h} i) p = field-read i ((rw p.0.2 at (both_read f h s p.0.0)).0, (both (narrow f) (narrow h) p.1).0)
field-read {s} (second {f = f} {h = h} i) p = field-read i ((rw p.0.2 at (both_read f h s p.0.0)).1, (both (narrow f) (narrow h) p.1).1)
field-read {s} (item {w = w} {n = n} {at = at} {f = f} before behind e i) p =
    field-read i ((all-behind (ReadAt f s) before (_ ∷ behind) (rw e at (items-read f s n at n))).0, (both (ltb w 9) (narrow f) p.1).1)

kind-narrow : (k : Kind) → narrow (body_of k) ≡ true
unfolding every
kind-narrow = every-kind (λ k. narrow (body_of k)) refl

of-message : {k : Kind} {s : List ℕ} {g : Format} {m : Listed g} {x : View g} → MessageField k s m x → ReadAt g s x × (narrow g ≡ true)
of-message {k} f = field-read f.field ((0, f.end, f.read), kind-narrow k)

pub fields-injective : FieldsInjective
fields-injective g m k j s t x y hs ht a b =
    let here = of-message a in
    let there = (of-message b).0 in
    lines-injective m here.1 s t here.0.0 there.0 hs ht here.0.2 there.2
