-- How many bytes a value takes, where the bytes behind it begin, and formats of one width.
use Prim.Native.Nat.{ℕ, zero, suc, ◌+◌, ◌*◌, ◌/◌, ◌≤◌, zero-le}
use mathlib.Core.Path.{◌≡◌, refl, sym, ap, ◌∙◌}
use mathlib.Core.List.{List, [], ◌∷◌}
use native.Mathlib.Nat.{suc-add}
use native.Mathlib.Omega.{arith}
use lib.ListN.{length, drop, length-append, length-drop}
use lib.Seq.{drop-drop}
use lib.Dec.{ltb, eqb}
use Rattle.format.specs.Format.{Format, number, code, cstring, ucs2, list, ◌&◌, Value, Read, got}
use Rattle.format.specs.Format.{decode_number, decode_items, decode_cstring, decode_ucs2, decode, encode_number, concat_map, encode, total, size}
use Rattle.format.proofs.Reading.{Gives, gives, fails, given, gives_self, gives-map, gives-bind, gives-pick, at-most-gives}

-- ---- the size of a value

length-number : (w n : ℕ) → length (encode_number w n) ≡ w
unfolding encode_number
length-number zero n = refl
length-number (suc w) n = ap suc (length-number w (n / 256))

length-ucs2 : (xs : List ℕ) → length (concat_map (encode_number 2) xs) ≡ length xs * 2
unfolding concat_map encode_number
length-ucs2 [] = refl
length-ucs2 (x ∷ xs) = omega (arith, length-ucs2 xs)

length-concat_map : {A : Type 0} {k : A → ℕ} (write : A → List ℕ) → ((a : A) → k a ≡ length (write a))
    → (xs : List A) → total k xs ≡ length (concat_map write xs)
unfolding total concat_map
length-concat_map write h [] = refl
length-concat_map write h (x ∷ xs) = rw (h x, length-concat_map write h xs, length-append)

pub size-is-length : (f : Format) (v : Value f) → size f v ≡ length (encode f v)
unfolding size encode
size-is-length (number w) n = sym (length-number w n)
size-is-length (code n r) c = sym (length-number 1 c)
size-is-length (cstring m) xs = sym (length-append xs (0 ∷ []))
size-is-length (ucs2 m) xs = rw (length-append, length-ucs2)
size-is-length (list w f) xs = rw (length-append, length-number, length-concat_map (encode f) (size-is-length f) xs)
size-is-length (f & g) x = rw (length-append, size-is-length f x.0, size-is-length g x.1)

-- ---- where the bytes behind a value begin: of any list of numbers, bytes or not

-- t is s without its first k
pub record Behind (k : ℕ) (s t : List ℕ) : Type 0 where
  pub within : k ≤ length s
  pub rest : t ≡ drop k s

behind-none : {s : List ℕ} → Behind 0 s s
behind-none = record { within = zero-le; rest = refl }

behind-cons : {k b : ℕ} {s t : List ℕ} → Behind k s t → Behind (suc k) (b ∷ s) t
behind-cons h = record { within = omega arith; rest = h.rest }

behind_more : {k l : ℕ} {s t u : List ℕ} → Behind k s t → Behind l t u → Behind (k + l) s u
behind_more {k} {l} {s} h h' = record {
  within = omega (arith, h.within, length-drop k s, rw h.rest at h'.within);
  rest = rw (← drop-drop, ← h.rest) h'.rest;
}

pub number_behind : (w : ℕ) (s : List ℕ) → Gives (λ n t. Behind w s t) (decode_number w s)
unfolding decode_number
number_behind zero s = gives behind-none
number_behind (suc w) [] = fails
number_behind (suc w) (b ∷ s) = gives-bind (number_behind w s) λ n t h. gives (behind-cons h)

pub cstring-behind : (s : List ℕ) → Gives (λ xs t. Behind (length xs + 1) s t) (decode_cstring s)
unfolding decode_cstring
cstring-behind [] = fails
cstring-behind (b ∷ s) = gives-pick (eqb b 0)
    (λ e. gives {a = []} (behind-cons behind-none))
    λ e. gives-bind (cstring-behind s) λ xs t h. gives {a = b ∷ xs} {t = t} (rw suc-add (behind-cons h))

pub ucs2-behind : (s : List ℕ) → Gives (λ xs t. Behind (length xs * 2 + 2) s t) (decode_ucs2 s)
unfolding decode_ucs2
ucs2-behind [] = fails
ucs2-behind (b ∷ []) = fails
ucs2-behind (b ∷ c ∷ s) = gives-pick (eqb (b + 256 * c) 0)
    (λ e. gives {a = []} (behind-cons (behind-cons behind-none)))
    λ e. gives-bind (ucs2-behind s) λ xs t h.
    let longer : suc (length xs) * 2 + 2 ≡ suc (suc (length xs * 2 + 2)) = omega arith in
    gives {a = (b + 256 * c) ∷ xs} {t = t} (rw longer (behind-cons (behind-cons h)))

items-behind : {A : Type 0} {k : A → ℕ} {read : List ℕ → Read A} → ((s : List ℕ) → Gives (λ a t. Behind (k a) s t) (read s))
    → (n : ℕ) (s : List ℕ) → Gives (λ xs t. Behind (total k xs) s t) (decode_items read n s)
unfolding decode_items total
items-behind h zero s = gives {a = []} behind-none
items-behind h (suc n) s = gives-bind (h s) λ a t e. gives-bind (items-behind h n t) λ xs u e'. gives (behind_more e e')

-- as many items as were asked for
pub items-count : {A : Type 0} (read : List ℕ → Read A) (n : ℕ) (s : List ℕ) → Gives (λ xs t. length xs ≡ n) (decode_items read n s)
unfolding decode_items
items-count read zero s = gives {a = []} refl
items-count read (suc n) s = gives-bind (gives_self (read s)) λ a t e. gives-bind (items-count read n t) λ xs u h. gives {a = a ∷ xs} (ap suc h)

pub decode-behind : (f : Format) (s : List ℕ) → Gives (λ v t. Behind (size f v) s t) (decode f s)
unfolding decode size
decode-behind (number w) s = number_behind w s
decode-behind (code n r) s = gives-bind (number_behind 1 s) λ c t h. gives-pick (ltb c n) (λ _. gives h) (λ _. fails)
decode-behind (cstring m) s = at-most-gives m (cstring-behind s)
decode-behind (ucs2 m) s = at-most-gives m (ucs2-behind s)
decode-behind (list w f) s = gives-bind (number_behind w s) λ n t h. gives-map (items-behind (decode-behind f) n t) λ xs u h'. behind_more h h'
decode-behind (f & g) s = gives-bind (decode-behind f s) λ a t h. gives-bind (decode-behind g t) λ b u h'. gives (behind_more h h')

pub rest-is-drop : (f : Format) (s : List ℕ) {v : Value f} {rest : List ℕ} → decode f s ≡ got v rest → rest ≡ drop (length (encode f v)) s
rest-is-drop f s {v} e = rw (← size-is-length f v) (given (decode-behind f s) e).rest

-- ---- the smallest value

-- numbers 0, strings and lists empty
abbrev pub bare : (f : Format) → Value f
bare (number w) = 0
bare (code n r) = 0
bare (cstring m) = []
bare (ucs2 m) = []
bare (list w f) = []
bare (f & g) = (bare f, bare g)

pub bare-smallest : (f : Format) (v : Value f) → size f (bare f) ≤ size f v
unfolding size total
bare-smallest (number w) v = omega arith
bare-smallest (code n r) v = omega arith
bare-smallest (cstring m) v = omega arith
bare-smallest (ucs2 m) v = omega arith
bare-smallest (list w f) v = omega arith
bare-smallest (f & g) v = omega (arith, bare-smallest f v.0, bare-smallest g v.1)

-- ---- formats of one width

abbrev pub Fixed : Format → Type 0
Fixed (number w) = Unit {0}
Fixed (code n r) = Unit {0}
Fixed (cstring m) = ⊥
Fixed (ucs2 m) = ⊥
Fixed (list w f) = ⊥
Fixed (f & g) = Fixed f × Fixed g

-- the bytes that every value of a fixed format takes
abbrev pub width : Format → ℕ
width (number w) = w
width (code n r) = 1
width (cstring m) = 0
width (ucs2 m) = 0
width (list w f) = 0
width (f & g) = width f + width g

pub size-is-width : (f : Format) → Fixed f → (v : Value f) → size f v ≡ width f
unfolding size
size-is-width (number w) h v = refl
size-is-width (code n r) h v = refl
size-is-width (cstring m) h v = absurd h
size-is-width (ucs2 m) h v = absurd h
size-is-width (list w f) h v = absurd h
size-is-width (f & g) h v = rw (size-is-width f h.0 v.0, size-is-width g h.1 v.1)

pub length-is-width : (f : Format) → Fixed f → (v : Value f) → length (encode f v) ≡ width f
length-is-width f h v = sym (size-is-length f v) ∙ size-is-width f h v
