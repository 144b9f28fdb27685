-- What is promised of a message's lines: they determine its fields. Each claim is proved under its name in the file of proofs/ beside it.
use Rattle.std.specs.Prelude.{ℕ, ◌≡◌, List, ◌∷◌, ◌++◌}
use Rattle.std.proofs.Math.Option.{Option}
use Rattle.format.specs.Format.{Format, list, ◌&◌, Bytes}
use Rattle.format.specs.View.{View, seen, view, steps, look}
use Rattle.protocol.specs.Kind.{Kind, body_of}
use Rattle.lines.specs.Lines.{Name, Listed, each, ◌and◌, lines}
use Rattle.names.specs.Names.{listed}
use Rattle.names.specs.Messages.{message_lines}

-- in a body, x listed as m is a field of v listed as l: v itself, a field of one of two things, or of an item of a list
pub data Field (body : List ℕ) {g : Format} (m : Listed g) (x : View g) : (f : Format) → Listed f → View f → Type 0 where
  itself : Field body m x g m x
  first : {f h : Format} {a : Listed f} {b : Listed h} {v : View f} {w : View h}
      → Field body m x f a v → Field body m x (f & h) (a and b) (v, w)
  second : {f h : Format} {a : Listed f} {b : Listed h} {v : View f} {w : View h}
      → Field body m x h b w → Field body m x (f & h) (a and b) (v, w)
  item : {w n at : ℕ} {f : Format} {count : Name} {l : Listed f} {v : View f} (before behind : List (View f))
      → steps f n body at n ≡ before ++ (v ∷ behind) → Field body m x f l v → Field body m x (list w f) (each count l) (at, n)

-- a field of a message: a body of its kind was read, and x listed as m is a field of what was read
pub record MessageField (k : Kind) (body : List ℕ) {g : Format} (m : Listed g) (x : View g) : Type 0 where
  pub whole : View (body_of k)
  pub end : ℕ
  pub read : view (body_of k) body 0 ≡ seen whole end
  pub field : Field body m x (body_of k) (listed k) whole

-- field-lines (Injective): a field's lines stand in its message's
abbrev pub FieldLines : Type 0
FieldLines = (k : Kind) (hint : Option ℕ) (body : List ℕ) (g : Format) (m : Listed g) (x : View g) (field : MessageField k body m x)
    → (before : List ℕ) × (behind : List ℕ) × (message_lines k hint body field.whole ≡ before ++ (lines m body x ++ behind))

-- fields-injective (Injective): two messages' lines for one field, be it a string or all fields together, are equal only if its values are
abbrev pub FieldsInjective : Type 0
FieldsInjective = (g : Format) (m : Listed g) (k j : Kind) (s t : List ℕ) (x y : View g) → Bytes s → Bytes t
    → MessageField k s m x → MessageField j t m y → lines m s x ≡ lines m t y → look g s x ≡ look g t y
