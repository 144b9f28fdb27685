-- What was read is listed alike only if it is equal: its lines are those of its value, and the lines of a value determine it.
use Prim.Native.Nat.{ℕ, zero, suc, ◌+◌, ◌^◌, ◌<◌, ◌≤◌}
use mathlib.Core.Path.{◌≡◌, refl, sym, ap, ◌∙◌}
use mathlib.Core.Bool.{Bool, true, ◌&&◌}
use mathlib.Core.List.{List, [], ◌∷◌, ◌++◌, Forall₂}
use native.Mathlib.Nat.{pow-le-pow_right}
use native.Mathlib.Omega.{arith}
use borrow.Author.Tests.{ltb-true}
use lib.ListN.{length, take, drop, take-append-drop}
use lib.Seq.{drop-drop}
use lib.Dec.{ltb}
use Rattle.format.specs.Format.{Format, number, code, cstring, ucs2, list, ◌&◌, Value, Read, got, refused, All, Bytes, Letter, Valid}
use Rattle.format.specs.Format.{decode_number, decode_items, decode, concat_map, size}
use Rattle.format.specs.View.{View, Seen, seen, missed, view, placed, place, steps, look}
use Rattle.format.proofs.Reading.{Gives, gives, fails, given, gives_self, gives-map, gives-bind}
use Rattle.format.proofs.Width.{decode-behind}
use Rattle.format.proofs.Look.{items-each, counted, holds}
use Rattle.format.proofs.Bools.{both}
use Rattle.format.proofs.Codec.{bytes-behind, read_back}
use Rattle.format.proofs.Lists.{all-weaken}
use Rattle.text.specs.Text.{hex, escaped, hex_block, line}
use Rattle.text.proofs.Delimited.{Delimited, injective, sequel, items-delimited}
use Rattle.text.proofs.Injective.{decimal-line, hex-line, escaped-line, block-line}
use Rattle.lines.specs.Lines.{Name, Listed, decimal, bits, type, bytes, units, each, block, digits, ◌and◌, decimal_line, range_of, lines}

-- ---- the lines of a value

-- without a body
unfoldable value_lines : {f : Format} → Listed f → Value f → List ℕ
unfolding concat_map
value_lines (decimal name) n = decimal_line name n
value_lines (bits name) n = line name (hex 8 n)
value_lines (type name) c = decimal_line name c
value_lines (bytes name) xs = line name (escaped xs)
value_lines (units name) xs = line name (escaped xs)
value_lines (each count item) xs = decimal_line count (length xs) ++ concat_map (value_lines item) xs
value_lines (block count name) xs = decimal_line count (length xs) ++ concat_map (decimal_line name) xs
value_lines (digits count name) xs = decimal_line count (length xs) ++ line name (hex_block xs)
value_lines (a and b) x = value_lines a x.0 ++ value_lines b x.1

each_same : {A B : Type 0} {k : A → List ℕ} {h : B → List ℕ} {xs : List A} {ys : List B} → Forall₂ (λ x y. k x ≡ h y) xs ys → concat_map k xs ≡ concat_map h ys
unfolding concat_map
each_same Forall₂.nil = refl
each_same (Forall₂.cons e rest) = rw (e, each_same rest) refl

block_held : (n : ℕ) (s : List ℕ) → Gives (λ xs t. take n s ≡ xs) (decode_items (decode (number 1)) n s)
unfolding decode_items decode decode_number
block_held zero s = gives {a = []} refl
block_held (suc n) [] = fails
block_held (suc n) (b ∷ s) = gives-bind (block_held n s) λ xs t h. gives (rw h (ap (◌∷ xs) (omega arith)))

-- what was read at an offset is listed as its value
module _ (s : List ℕ) where
  block-lines : (w at : ℕ) (k : ℕ → List ℕ → List ℕ)
      → Gives (λ xs t. k (length xs) (range_of s (at + w, length xs)) ≡ k (length xs) xs) (decode (list w (number 1)) (drop at s))
  block-lines w at k = counted w (number 1) s at (λ n xs. k n (range_of s (at + w, n)) ≡ k n xs)
      λ n. gives-map (block_held n (drop (at + w) s)) λ xs t h. ap (k n) h

  lines-of-value : {f : Format} (l : Listed f) (at : ℕ) → Gives (λ v t. lines l s (place f at v) ≡ value_lines l v) (decode f (drop at s))
  unfolding decode lines value_lines place look size
  lines-of-value (decimal {w} name) at = gives-map (holds (number w) s at) λ n t h. refl
  lines-of-value (bits name) at = gives-map (holds (number 4) s at) λ n t h. refl
  lines-of-value (type {n} {r} name) at = gives-map (holds (code n r) s at) λ c t h. refl
  lines-of-value (bytes {m} name) at = gives-map (holds (cstring m) s at) λ xs t h. ap (λ (z : List ℕ). line name (escaped z)) h
  lines-of-value (units {m} name) at = gives-map (holds (ucs2 m) s at) λ xs t h. ap (λ (z : List ℕ). line name (escaped z)) h
  lines-of-value (each {w} {f} count item) at =
      let with-count : ℕ → List ℕ → List ℕ = λ n ls. decimal_line count n ++ ls in
      counted w f s at (λ n xs. with-count n (concat_map (lines item s) (steps f n s (at + w) n)) ≡ with-count n (concat_map (value_lines item) xs))
      λ n. gives-map (items-each f s (λ v x. lines item s v ≡ value_lines item x) (lines-of-value item) n (at + w)) λ xs t h. ap (with-count n) (each_same h)
  lines-of-value (block {w} count name) at = block-lines w at λ n xs. decimal_line count n ++ concat_map (decimal_line name) xs
  lines-of-value (digits {w} count name) at = block-lines w at λ n xs. decimal_line count n ++ line name (hex_block xs)
  lines-of-value (◌and◌ {f} {g} a b) at = gives-bind (gives_self (decode f (drop at s))) λ x t e.
      let place_of : t ≡ drop (at + size f x) s = rw (← drop-drop) (given (decode-behind f (drop at s)) e).rest in
      rw place_of (gives-bind (lines-of-value b (at + size f x)) λ y u h. gives (rw (given (lines-of-value a at) e, h)))

-- ---- the lines of a value determine it

-- numbers and counts have at most eight bytes, so that every decimal digit is printed
abbrev pub narrow : Format → Bool
narrow (number w) = ltb w 9
narrow (code n r) = true
narrow (cstring m) = true
narrow (ucs2 m) = true
narrow (list w f) = ltb w 9 && narrow f
narrow (f & g) = narrow f && narrow g

within : (w : ℕ) → ltb w 9 ≡ true → (n : ℕ) → n < 256 ^ w → n < 10 ^ 20
within w h n k = omega (arith, pow-le-pow_right {n = 256} (omega arith) {i = w} {j = 8} (omega (arith, ltb-true w 9 h)))

number-line : (w : ℕ) → ltb w 9 ≡ true → (name : Name) → Delimited (λ n. n < 256 ^ w) (decimal_line name)
number-line w h name n m r t hn hm = decimal-line name n m r t (within w h n hn) (within w h m hm)

string-line : (w : ℕ) → w ≤ 2 → (m : ℕ) (name : Name) → Delimited (λ xs. (length xs ≤ m) × All (Letter (256 ^ w)) xs) (λ xs. line name (escaped xs))
string-line w h m name xs ys r t hx hy =
    let units_of = all-weaken (Letter (256 ^ w)) (λ u. u < 256 ^ w) (λ u k. k.0) in
    escaped-line w h name xs ys r t (units_of xs hx.1) (units_of ys hy.1)

list-lines : {A : Type 0} (w : ℕ) → ltb w 9 ≡ true → (count : Name) (Fits : List A → Type 0) (items : List A → List ℕ)
    → ((n : ℕ) → Delimited (λ xs. (length xs ≡ n) × Fits xs) items)
    → Delimited (λ xs. (length xs < 256 ^ w) × Fits xs) (λ xs. decimal_line count (length xs) ++ items xs)
list-lines w h count Fits items = sequel (λ n. n < 256 ^ w) Fits (decimal_line count) items length (number-line w h count)

values-delimited : {f : Format} (l : Listed f) → narrow f ≡ true → Delimited (Valid f) (value_lines l)
unfolding value_lines
values-delimited (decimal {w} name) h = number-line w h name
values-delimited (bits name) h = hex-line name
values-delimited (type name) h = λ c d r t hc hd. number-line 1 refl name c d r t hc.0 hd.0
values-delimited (bytes {m} name) h = string-line 1 (omega arith) m name
values-delimited (units {m} name) h = string-line 2 (omega arith) m name
values-delimited (each {w} {f} count item) h =
    let parts = both (ltb w 9) (narrow f) h in
    list-lines w parts.0 count (All (Valid f)) (concat_map (value_lines item)) (items-delimited (Valid f) (value_lines item) (values-delimited item parts.1))
values-delimited (block {w} count name) h =
    list-lines w (both (ltb w 9) true h).0 count Bytes (concat_map (decimal_line name))
    (items-delimited (λ b. b < 256) (decimal_line name) (number-line 1 refl name))
values-delimited (digits {w} count name) h =
    list-lines w (both (ltb w 9) true h).0 count Bytes (λ xs. line name (hex_block xs)) λ n xs ys r t hx hy. block-line name xs ys r t hx.1 hy.1
values-delimited (◌and◌ {f} {g} a b) h =
    let parts = both (narrow f) (narrow g) h in
    sequel (Valid f) (λ x. Valid g x.1) (value_lines a) (λ x. value_lines b x.1) (λ x. x.0) (values-delimited a parts.0)
    λ first x y r t hx hy e.
    let second = values-delimited b parts.1 x.1 y.1 r t hx.1 hy.1 e in
    let front : x.0 ≡ y.0 = hx.0 ∙ sym hy.0 in
    (λ i. (front i, second.0 i), second.1)

-- ---- the theorem

-- a view that was read is that of a valid value, which it finds and whose lines it has
record ReadAs {f : Format} (l : Listed f) (s : List ℕ) (v : View f) : Type 0 where
  value : Value f
  valid : Valid f value
  held : look f s v ≡ value
  listed : lines l s v ≡ value_lines l value

abbrev SeenAs : {f : Format} → Listed f → List ℕ → Seen (View f) → Type 0
SeenAs l s (seen v e) = ReadAs l s v
SeenAs l s (missed n) = Unit {0}

read_as : {f : Format} (l : Listed f) (s : List ℕ) (at : ℕ) → Bytes s → SeenAs l s (view f s at)
unfolding view placed
read_as {f} l s at hs = by (decode f (drop at s)) refl where
  by : (r : Read (Value f)) → decode f (drop at s) ≡ r → SeenAs l s (placed f at r)
  by (got x t) e = record {
    value = x;
    valid = (read_back f (drop at s) (bytes-behind (take at s) (drop at s) (rw (take-append-drop at s) hs)) e).0;
    held = given (holds f s at) e;
    listed = given (lines-of-value s l at) e;
  }
  by (refused n) e = tt

-- what was read at an offset of one body and at one of another, under the same names
pub lines-injective : {f : Format} (l : Listed f) → narrow f ≡ true → (s t : List ℕ) (i j : ℕ) {d e : ℕ} {v u : View f} → Bytes s → Bytes t
    → view f s i ≡ seen v d → view f t j ≡ seen u e → lines l s v ≡ lines l t u → look f s v ≡ look f t u
lines-injective {f} l h s t i j {v = v} {u = u} hs ht p q same =
    let x : ReadAs l s v = rw p at (read_as l s i hs) in
    let y : ReadAs l t u = rw q at (read_as l t j ht) in
    let alike : value_lines l x.value ≡ value_lines l y.value = sym x.listed ∙ same ∙ y.listed in
    x.held ∙ injective (Valid f) (value_lines l) (values-delimited l h) x.value y.value x.valid y.valid alike ∙ sym y.held
