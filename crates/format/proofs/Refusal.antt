-- A body is refused with a number of its format's list.
use Prim.Native.Nat.{ℕ, zero, suc, ◌+◌, ◌*◌}
use mathlib.Core.Path.{◌≡◌, refl}
use mathlib.Core.Bool.{Bool, true, false, ◌||◌}
use mathlib.Core.List.{List, [], ◌∷◌}
use lib.ListN.{length}
use lib.Dec.{ltb, eqb}
use borrow.Author.Tests.{eq-eqb}
use Rattle.format.specs.Format.{Format, number, code, cstring, ucs2, list, ◌&◌, Read, got, refused, bind, pick, at_most}
use Rattle.format.specs.Format.{decode_number, decode_items, decode_cstring, decode_ucs2, decode, All}
use Rattle.format.specs.Fault.{any}
use Rattle.format.specs.Refusals.{refusals, is_one_of}
use Rattle.format.proofs.Lists.{all-front, all-behind, all-weaken}

-- if it was refused, then with such a number
pub data Refuses {A : Type 0} (P : ℕ → Type 0) : Read A → Type 0 where
  reads : {a : A} {t : List ℕ} → Refuses P (got a t)
  refuses : {n : ℕ} → P n → Refuses P (refused n)

module _ {A : Type 0} {P : ℕ → Type 0} where
  refuses-is : {n : ℕ} → Refuses {A = A} P (refused n) → P n
  refuses-is (refuses h) = h

  pub refused-with : {r : Read A} {n : ℕ} → Refuses P r → r ≡ refused n → P n
  refused-with h e = refuses-is (rw e at h)

  refuses-bind : {B : Type 0} {r : Read A} {then : A → List ℕ → Read B} → Refuses P r → ((a : A) (t : List ℕ) → Refuses P (then a t)) → Refuses P (bind r then)
  refuses-bind (reads {a} {t}) k = k a t
  refuses-bind (refuses h) k = refuses h

  refuses-pick : (test : Bool) {r r' : Read A} → Refuses P r → Refuses P r' → Refuses P (pick test r r')
  refuses-pick true h k = h
  refuses-pick false h k = k

-- a string is refused with 8
module _ (P : ℕ → Type 0) (eight : P 8) where
  pub cstring-refuses : (s : List ℕ) → Refuses P (decode_cstring s)
  unfolding decode_cstring
  cstring-refuses [] = refuses eight
  cstring-refuses (b ∷ s) = refuses-pick (eqb b 0) reads (refuses-bind (cstring-refuses s) λ xs t. reads)

  pub ucs2-refuses : (s : List ℕ) → Refuses P (decode_ucs2 s)
  unfolding decode_ucs2
  ucs2-refuses [] = refuses eight
  ucs2-refuses (b ∷ []) = refuses eight
  ucs2-refuses (b ∷ c ∷ s) = refuses-pick (eqb (b + 256 * c) 0) reads (refuses-bind (ucs2-refuses s) λ xs t. reads)

-- within a limit also with 19
pub at-most-refuses : (P : ℕ → Type 0) → P 19 → (m : ℕ) {r : Read (List ℕ)} → Refuses P r → Refuses P (bind r (at_most m))
at-most-refuses P nineteen m h = refuses-bind h λ xs t. refuses-pick (ltb m (length xs)) (refuses nineteen) reads

-- a number with 7
pub number-refuses : (P : ℕ → Type 0) → P 7 → (w : ℕ) (s : List ℕ) → Refuses P (decode_number w s)
unfolding decode_number
number-refuses P seven zero s = reads
number-refuses P seven (suc w) [] = refuses seven
number-refuses P seven (suc w) (b ∷ s) = refuses-bind (number-refuses P seven w s) λ n t. reads

pub items-refuse : {A : Type 0} (P : ℕ → Type 0) (read : List ℕ → Read A) → ((s : List ℕ) → Refuses P (read s)) → (n : ℕ) (s : List ℕ) → Refuses P (decode_items read n s)
unfolding decode_items
items-refuse P read h zero s = reads
items-refuse P read h (suc n) s = refuses-bind (h s) λ a t. refuses-bind (items-refuse P read h n t) λ xs u. reads

-- what holds of every number in the format's list holds of the number of the refusal
pub decode-refuses : (P : ℕ → Type 0) (f : Format) → All P (refusals f) → (s : List ℕ) → Refuses P (decode f s)
unfolding decode
decode-refuses P (number w) h s = number-refuses P h.0 w s
decode-refuses P (code n r) h s = refuses-bind (number-refuses P h.0 1 s) λ c t. refuses-pick (ltb c n) reads (refuses h.1.0)
decode-refuses P (cstring m) h s = at-most-refuses P h.1.0 m (cstring-refuses P h.0 s)
decode-refuses P (ucs2 m) h s = at-most-refuses P h.1.0 m (ucs2-refuses P h.0 s)
decode-refuses P (list w f) h s = refuses-bind (number-refuses P h.0 w s) λ n t. items-refuse P (decode f) (decode-refuses P f h.1) n t
decode-refuses P (f & g) h s =
    refuses-bind (decode-refuses P f (all-front P (refusals f) (refusals g) h) s) λ a t.
    refuses-bind (decode-refuses P g (all-behind P (refusals f) (refusals g) h) t) λ c u. reads

-- so it is one of the list
or_right : (a : Bool) {b : Bool} → b ≡ true → (a || b) ≡ true
or_right true h = refl
or_right false h = h

pub each-one-of : (l : List ℕ) → All (λ n. is_one_of l n ≡ true) l
unfolding any
each-one-of [] = tt
each-one-of (x ∷ l) = (
  rw (eq-eqb x x refl) refl,
  all-weaken (λ n. is_one_of l n ≡ true) (λ n. is_one_of (x ∷ l) n ≡ true) (λ n h. or_right (eqb n x) h) l (each-one-of l),
)

pub decode-number : (f : Format) (s : List ℕ) → Refuses (λ n. is_one_of (refusals f) n ≡ true) (decode f s)
decode-number f s = decode-refuses (λ n. is_one_of (refusals f) n ≡ true) f (each-one-of (refusals f)) s
