-- Lists passed over: item by item, and, where every item is numbers only, by the length alone. And what was read, by the offset behind it alone.
use Prim.Native.Nat.{ℕ, zero, suc, ◌+◌, ◌-◌, ◌*◌, ◌<◌, ◌≤◌}
use mathlib.Core.Path.{◌≡◌, refl, sym, ap, ◌∙◌}
use mathlib.Core.Bool.{Bool, true, false}
use mathlib.Core.List.{List, [], ◌∷◌, map}
use native.Mathlib.Nat.{suc-mul, zero-mul, one-mul, add_assoc, add-zero, zero-add, suc-add}
use native.Mathlib.Omega.{arith}
use borrow.Author.Tests.{leb-true, leb-false}
use lib.ListN.{length, take, drop, get_or, length-drop}
use lib.Seq.{drop-drop, drop-cons}
use lib.Dec.{leb, eqb-suc-zero}
use Rattle.format.specs.Format.{Format, number, code, cstring, ucs2, list, ◌&◌, Value, Read, got, refused, bind, pick, decode_number, decode_items, decode, total, size}
use Rattle.format.proofs.Reading.{Gives, gives, fails, given, gives-bind}
use Rattle.format.proofs.Width.{Behind, number_behind, decode-behind, items-count, Fixed, width, size-is-width}
use Rattle.format.specs.View.{View, Seen, seen, missed, view, placed, place, stepped, steps, look}
use Rattle.format.specs.Passed.{ended, passed, past, room}
use Rattle.format.proofs.Views.{after, byte-there}

-- ---- items passed one by one

module _ (f : Format) (s : List ℕ) where
  pub passed_none : (at : ℕ) → passed f s at 0 ≡ seen tt at
  unfolding passed decode_items total
  passed_none at = ap (λ (n : ℕ). seen tt n) (add-zero at)

  tail : (at : ℕ) (a : Value f) (r : Read (List (Value f))) → ended (size f) at (bind r (λ xs u. got (a ∷ xs) u)) ≡ ended (size f) (at + size f a) r
  unfolding total
  tail at a (got xs u) = ap (λ (n : ℕ). seen tt n) (sym (add_assoc at (size f a) (total (size f) xs)))
  tail at a (refused k) = refl

  head : (at n : ℕ) (r : Read (Value f)) → Gives (λ a t. Behind (size f a) (drop at s) t) r
      → ended (size f) at (bind r (λ a t. bind (decode_items (decode f) n t) (λ xs u. got (a ∷ xs) u))) ≡ after (placed f at r) (λ a e. passed f s e n)
  unfolding after placed passed
  head at n r (gives {a} b) = rw (b.rest, drop-drop) (tail at a (decode_items (decode f) n (drop (at + size f a) s)))
  head at n r fails = refl

  -- the first item, then the others
  pub passed-more : (at n : ℕ) → passed f s at (suc n) ≡ after (view f s at) (λ a e. passed f s e n)
  unfolding passed decode_items view
  passed-more at n = head at n (decode f (drop at s)) (decode-behind f (drop at s))

  behind : (w at n : ℕ) (r : Read (List (Value f))) → Gives (λ xs t. length xs ≡ n) r
      → placed (list w f) at r ≡ after (ended (size f) (at + w) r) (λ u d. seen (at + w, n) d)
  unfolding after placed place size
  behind w at n r (gives {a = xs} h) = let p : length xs ≡ n = h in let q : at + (w + total (size f) xs) ≡ at + w + total (size f) xs = omega arith in cc
  behind w at n r fails = refl

  counted : (w at : ℕ) (r : Read ℕ) → Gives (λ n t. Behind w (drop at s) t) r
      → placed (list w f) at (bind r (λ n t. decode_items (decode f) n t)) ≡ after (placed (number w) at r) (λ n e. after (passed f s e n) (λ u d. seen (e, n) d))
  unfolding after placed place size passed
  counted w at r (gives {a = n} b) = rw (b.rest, drop-drop) (behind w at n (decode_items (decode f) n (drop (at + w) s)) (items-count (decode f) n (drop (at + w) s)))
  counted w at r fails = refl

  -- a list is its count, then as many items
  pub view-list : (w at : ℕ) → view (list w f) s at ≡ after (view (number w) s at) (λ n e. after (passed f s e n) (λ u d. seen (e, n) d))
  unfolding view decode
  view-list w at = counted w at (decode_number w (drop at s)) (number_behind w (drop at s))

  passed-pred : (at n : ℕ) → 0 < n → passed f s at n ≡ after (view f s at) (λ a e. passed f s e (n - 1))
  passed-pred at zero h = absurd (omega arith)
  passed-pred at (suc n) h = let p : suc n - 1 ≡ n = omega arith in rw p (passed-more at n)

  -- a loop that passes items: one more, and a refusal
  pub passed-next : (at n : ℕ) {e : ℕ} {a : View f} → 0 < n → view f s at ≡ seen a e → passed f s at n ≡ passed f s e (n - 1)
  unfolding after
  passed-next at n h p = rw (passed-pred at n h, p) refl

  pub passed-stop : (at n : ℕ) {k : ℕ} → 0 < n → view f s at ≡ missed k → passed f s at n ≡ missed k
  unfolding after
  passed-stop at n h p = rw (passed-pred at n h, p) refl

-- a list's count, then its items
module _ (f : Format) (w : ℕ) (s : List ℕ) (at : ℕ) where
  pub list-there : {n e d : ℕ} → view (number w) s at ≡ seen n e → passed f s e n ≡ seen tt d → view (list w f) s at ≡ seen (e, n) d
  unfolding after
  list-there p q = rw (view-list f s w at, p, q) refl

  pub list-off : {n e k : ℕ} → view (number w) s at ≡ seen n e → passed f s e n ≡ missed k → view (list w f) s at ≡ missed k
  unfolding after
  list-off p q = rw (view-list f s w at, p, q) refl

  pub list-short : {k : ℕ} → view (number w) s at ≡ missed k → view (list w f) s at ≡ missed k
  unfolding after
  list-short p = rw (view-list f s w at, p) refl

-- ---- what was read, by the offset behind it alone

past_after : {B C : Type 0} (v : Seen B) (k : B → C) → past (after v (λ b d. seen (k b) d)) ≡ past v
unfolding after
past_after (seen b d) k = refl
past_after (missed n) k = refl

-- two things, one behind the other, whatever is made of them
pub past-both : {A B C : Type 0} (v : Seen A) (w : ℕ → Seen B) (k : A → B → C)
    → past (after v (λ a e. after (w e) (λ b d. seen (k a b) d))) ≡ after (past v) (λ u e. past (w e))
unfolding after
past-both (seen a e) w k = past_after (w e) (k a)
past-both (missed n) w k = refl

-- an item is passed, then the others
module _ (f : Format) (s : List ℕ) (at : ℕ) where
  pub passed-past : (n : ℕ) → 0 < n → passed f s at n ≡ after (past (view f s at)) (λ u e. passed f s e (n - 1))
  unfolding after
  passed-past n h = passed-pred f s at n h ∙ by (view f s at)
    where
      by : (v : Seen (View f)) → after v (λ a e. passed f s e (n - 1)) ≡ after (past v) (λ u e. passed f s e (n - 1))
      by (seen a e) = refl
      by (missed k) = refl

  past-once : passed f s at 1 ≡ past (view f s at)
  unfolding after
  past-once = passed-more f s at 0 ∙ by (view f s at)
    where
      by : (v : Seen (View f)) → after v (λ a e. passed f s e 0) ≡ past v
      by (seen a e) = passed_none f s e
      by (missed k) = refl

-- ---- formats of numbers only: there where their bytes are, and refused 7 where they are not

abbrev pub Plain : Format → Type 0
Plain (number w) = Unit {0}
Plain (code n r) = ⊥
Plain (cstring m) = ⊥
Plain (ucs2 m) = ⊥
Plain (list w f) = ⊥
Plain (f & g) = Plain f × Plain g

pub plain-fixed : (f : Format) → Plain f → Fixed f
plain-fixed (number w) p = tt
plain-fixed (code n r) p = absurd p
plain-fixed (cstring m) p = absurd p
plain-fixed (ucs2 m) p = absurd p
plain-fixed (list w f) p = absurd p
plain-fixed (f & g) p = (plain-fixed f p.0, plain-fixed g p.1)

-- something is read
pub record There {A : Type 0} (r : Read A) : Type 0 where
  pub value : A
  pub behind : List ℕ
  pub reads : r ≡ got value behind

there-got : {A : Type 0} (a : A) (t : List ℕ) → There (got a t)
there-got a t = record { value = a; behind = t; reads = refl }

there-bind : {A B : Type 0} {r : Read A} (then : A → List ℕ → Read B) (a : There r) → There (then a.value a.behind) → There (bind r then)
there-bind {A} {B} then a b = record { value = b.value; behind = b.behind; reads = ap (λ (x : Read A). bind x then) a.reads ∙ b.reads }

number-there : (w : ℕ) (s : List ℕ) → w ≤ length s → There (decode_number w s)
unfolding decode_number
number-there zero s h = record { value = 0; behind = s; reads = refl }
number-there (suc w) [] h = absurd (omega arith)
number-there (suc w) (b ∷ s) h = let t = number-there w s (omega arith) in record { value = b + 256 * t.value; behind = t.behind; reads = rw t.reads }

number_short : (w : ℕ) (s : List ℕ) → length s < w → decode_number w s ≡ refused 7
unfolding decode_number
number_short zero s h = absurd (omega arith)
number_short (suc w) [] h = refl
number_short (suc w) (b ∷ s) h = rw (number_short w s (omega arith))

-- the second of two, behind the first
abbrev second : (f g : Format) → Value f → Value g → List ℕ → Read (Value (f & g))
second f g a b u = got (a, b) u

abbrev onwards : (f g : Format) → Value f → List ℕ → Read (Value (f & g))
onwards f g a t = bind (decode g t) (second f g a)

pub plain-there : (f : Format) → Plain f → (s : List ℕ) → width f ≤ length s → There (decode f s)
unfolding decode
plain-there (number w) p s h = number-there w s h
plain-there (code n r) p s h = absurd p
plain-there (cstring m) p s h = absurd p
plain-there (ucs2 m) p s h = absurd p
plain-there (list w f) p s h = absurd p
plain-there (f & g) p s h =
    let a = plain-there f p.0 s (omega arith) in
    let z = size-is-width f (plain-fixed f p.0) a.value in
    let t : a.behind ≡ drop (size f a.value) s = (given (decode-behind f s) a.reads).rest in
    let long : width g ≤ length a.behind = rw (t, z) (omega (arith, length-drop (width f) s)) in
    let b = plain-there g p.1 a.behind long in
    there-bind (onwards f g) a (there-bind (second f g a.value) b (there-got (a.value, b.value) b.behind))

pub plain-short : (f : Format) → Plain f → (s : List ℕ) → length s < width f → decode f s ≡ refused 7
unfolding decode
plain-short (number w) p s h = number_short w s h
plain-short (code n r) p s h = absurd p
plain-short (cstring m) p s h = absurd p
plain-short (ucs2 m) p s h = absurd p
plain-short (list w f) p s h = absurd p
plain-short (f & g) p s h = by (leb (width f) (length s)) refl (plain-short f p.0 s) (plain-short g p.1 (drop (width f) s))
  where
    by : (b : Bool) → leb (width f) (length s) ≡ b → (length s < width f → decode f s ≡ refused 7)
        → (length (drop (width f) s) < width g → decode g (drop (width f) s) ≡ refused 7)
        → bind (decode f s) (onwards f g) ≡ refused 7
    by true e first next =
        let a = plain-there f p.0 s (leb-true (width f) (length s) e) in
        let z = size-is-width f (plain-fixed f p.0) a.value in
        let t : a.behind ≡ drop (width f) s = (given (decode-behind f s) a.reads).rest ∙ ap (λ (n : ℕ). drop n s) z in
        let whole : length s < width f + width g = h in
        let enough : width f ≤ length s = leb-true (width f) (length s) e in
        let rest : decode g a.behind ≡ refused 7 = ap (decode g) t ∙ next (omega (arith, length-drop (width f) s)) in
        ap (λ (x : Read (Value f)). bind x (onwards f g)) a.reads
        ∙ ap (λ (x : Read (Value g)). bind x (second f g a.value)) rest
    by false e first next = rw (first (leb-false (width f) (length s) e))

module _ (f : Format) (p : Plain f) where
  first-behind : (s : List ℕ) → (a : There (decode f s)) → a.behind ≡ drop (width f) s
  first-behind s a = (given (decode-behind f s) a.reads).rest ∙ ap (λ (n : ℕ). drop n s) (size-is-width f (plain-fixed f p) a.value)

  items-there : (n : ℕ) (s : List ℕ) → n * width f ≤ length s → There (decode_items (decode f) n s)
  unfolding decode_items
  items-there zero s h = record { value = []; behind = s; reads = refl }
  items-there (suc n) s h =
      let a = plain-there f p s (omega (arith, suc-mul n (width f))) in
      let t : a.behind ≡ drop (width f) s = first-behind s a in
      let b = items-there n (drop (width f) s) (omega (arith, suc-mul n (width f), length-drop (width f) s)) in
      let rest : There (decode_items (decode f) n a.behind) = record { value = b.value; behind = b.behind; reads = ap (decode_items (decode f) n) t ∙ b.reads } in
      there-bind (λ x t. bind (decode_items (decode f) n t) (λ xs u. got (x ∷ xs) u)) a
      (there-bind (λ xs u. got (a.value ∷ xs) u) rest (there-got (a.value ∷ b.value) b.behind))

  pub items-short : (n : ℕ) (s : List ℕ) → length s < n * width f → decode_items (decode f) n s ≡ refused 7
  unfolding decode_items
  items-short zero s h = absurd (omega (arith, zero-mul (width f)))
  items-short (suc n) s h =
      by (leb (width f) (length s)) refl (λ l. items-short n (drop (width f) s) (omega (arith, l, suc-mul n (width f), length-drop (width f) s)))
    where
      by : (b : Bool) → leb (width f) (length s) ≡ b → (width f ≤ length s → decode_items (decode f) n (drop (width f) s) ≡ refused 7)
          → bind (decode f s) (λ a t. bind (decode_items (decode f) n t) (λ xs u. got (a ∷ xs) u)) ≡ refused 7
      by true e rest =
          let l = leb-true (width f) (length s) e in
          let a = plain-there f p s l in
          let t : a.behind ≡ drop (width f) s = first-behind s a in
          ap (λ (x : Read (Value f)). bind x (λ a t. bind (decode_items (decode f) n t) (λ xs u. got (a ∷ xs) u))) a.reads
          ∙ ap (λ (x : Read (List (Value f))). bind x (λ xs u. got (a.value ∷ xs) u)) (ap (decode_items (decode f) n) t ∙ rest l)
      by false e rest = rw (plain-short f p s (leb-false (width f) (length s) e))

  pub total-width : (xs : List (Value f)) → total (size f) xs ≡ length xs * width f
  unfolding total
  total-width [] = sym (zero-mul (width f))
  total-width (x ∷ xs) = omega (arith, total-width xs, size-is-width f (plain-fixed f p) x, suc-mul (length xs) (width f))

  -- items of numbers only are there if their bytes are: no item need be read
  pub passed-plain : (s : List ℕ) (at n : ℕ) → passed f s at n ≡ room s at (n * width f)
  unfolding passed room
  passed-plain s at n = by (leb (n * width f) (length s - at)) refl
    where
      by : (b : Bool) → leb (n * width f) (length s - at) ≡ b → ended (size f) at (decode_items (decode f) n (drop at s)) ≡ pick b (seen tt (at + n * width f)) (missed 7)
      by true e =
          let a = items-there n (drop at s) (omega (arith, leb-true (n * width f) (length s - at) e, length-drop at s)) in
          let c : length a.value ≡ n = given (items-count (decode f) n (drop at s)) a.reads in
          let z : total (size f) a.value ≡ n * width f = total-width a.value ∙ ap (λ (m : ℕ). m * width f) c in
          ap (ended (size f) at) a.reads ∙ ap (λ (m : ℕ). seen tt (at + m)) z
      by false e = rw (items-short n (drop at s) (omega (arith, leb-false (n * width f) (length s - at) e, length-drop at s)))

-- numbers are passed where their bytes are
pub past-plain : (f : Format) → Plain f → (s : List ℕ) (at : ℕ) → past (view f s at) ≡ room s at (width f)
past-plain f p s at = sym (past-once f s at) ∙ passed-plain f p s at 1 ∙ ap (room s at) (one-mul (width f))

-- ---- numbers only are read out of their own bytes, whatever stands behind them

number-own : (w k : ℕ) (t : List ℕ) → Gives (λ n u. decode_number w (take (w + k) t) ≡ got n (take k u)) (decode_number w t)
unfolding decode_number
number-own zero k t = gives {a = 0} {t = t} (rw zero-add refl)
number-own (suc w) k [] = fails
number-own (suc w) k (b ∷ t) = gives-bind (number-own w k t) λ n u h. gives {a = b + 256 * n} {t = u} (rw (suc-add, h) refl)

plain-own : (f : Format) → Plain f → (k : ℕ) (t : List ℕ) → Gives (λ v u. decode f (take (width f + k) t) ≡ got v (take k u)) (decode f t)
unfolding decode
plain-own (number w) p k t = number-own w k t
plain-own (code n r) p k t = absurd p
plain-own (cstring m) p k t = absurd p
plain-own (ucs2 m) p k t = absurd p
plain-own (list w f) p k t = absurd p
plain-own (f & g) p k t = gives-bind (plain-own f p.0 (width g + k) t) λ a u h.
    gives-bind (plain-own g p.1 k u) λ b r h'. gives {a = (a, b)} {t = r} (rw (add_assoc, h, h') refl)

-- and their view has no offset
plain-place : (f : Format) → Plain f → (at : ℕ) (v : Value f) → place f at v ≡ place f 0 v
unfolding place
plain-place (number w) p at v = refl
plain-place (code n r) p at v = absurd p
plain-place (cstring m) p at v = absurd p
plain-place (ucs2 m) p at v = absurd p
plain-place (list w f) p at v = absurd p
plain-place (f & g) p at v =
    let second = plain-place g p.1 (at + size f v.0) v.1 in
    let alone = plain-place g p.1 (0 + size f v.0) v.1 in
    rw (plain-place f p.0 at v.0, second, alone) refl

-- so what is seen in their own bytes is seen in the whole
pub record Own (f : Format) (s : List ℕ) (at : ℕ) : Type 0 where
  pub fields : View f
  pub alone : view f (take (width f) (drop at s)) 0 ≡ seen fields (width f)
  pub whole : view f s at ≡ seen fields (at + width f)

pub own-bytes : (f : Format) → Plain f → (s : List ℕ) (at : ℕ) → at + width f ≤ length s → Own f s at
unfolding view placed
own-bytes f p s at h =
    let a = plain-there f p (drop at s) (omega (arith, length-drop at s)) in
    let o : decode f (take (width f) (drop at s)) ≡ got a.value [] = rw add-zero at (given (plain-own f p 0 (drop at s)) a.reads) in
    let w : size f a.value ≡ width f = size-is-width f (plain-fixed f p) a.value in
    record {
      fields = place f 0 a.value;
      alone = rw (o, w, zero-add) refl;
      whole = rw (a.reads, plain-place f p at a.value, w) refl;
    }

-- ---- a block of bytes: stepping through it gives the bytes of its range

pub block-steps : (s : List ℕ) (n at : ℕ) → at + n ≤ length s → map (look (number 1) s) (steps (number 1) n s at n) ≡ take n (drop at s)
unfolding steps stepped look
block-steps s zero at h = refl
block-steps s (suc n) at h =
    let here : at < length s = omega arith in
    let less : suc n - 1 ≡ n = omega arith in
    let on : suc at ≡ at + 1 = omega arith in
    rw (eqb-suc-zero n, byte-there s at here, less, drop-cons s at 0 here, on) (ap (get_or s at 0 ∷◌) (block-steps s n (at + 1) (omega arith)))
