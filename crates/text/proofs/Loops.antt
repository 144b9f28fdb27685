-- Texts of many items, written one behind the other by a loop.
use Prim.Native.Nat.{ℕ, zero, suc, ◌+◌, ◌-◌, ◌*◌, ◌/◌, ◌≤◌, ◌<◌, min}
use mathlib.Core.Path.{◌≡◌, refl, ap, ◌∙◌}
use mathlib.Core.List.{List, [], ◌∷◌, ◌++◌}
use native.Mathlib.Numerals.{add-one}
use native.Mathlib.Omega.{arith}
use borrow.Author.Rules as kit
use lib.ListN.{length, get_or, drop, length-drop, drop_of_length-le}
use lib.Seq.{length-sets, drop-cons}
use Rattle.format.specs.Format.{concat_map}
use Rattle.format.specs.View.{units_of}
use Rattle.text.specs.Prints.{Prints}
use Rattle.text.proofs.Prints.{put-nil, put_then}
use Rattle.text.specs.Text.{escape}

-- what a loop has written at p of o₀ has come to q of o: whoever writes the rest there has written the whole
pub record Onto (from : ℕ) (rest : List ℕ) (q : ℕ) (o : List ℕ) (whole : List ℕ) (p : ℕ) (o₀ : List ℕ) : Type 0 where
  pub whole_of : {r : ℕ} {o' : List ℕ} → Prints from rest q o r o' → Prints from whole p o₀ r o'
  pub length-of : length o ≡ length o₀

pub onto-none : {from : ℕ} {whole o : List ℕ} {p : ℕ} → Onto from whole p o whole p o
onto-none = record { whole_of = λ x. x; length-of = refl }

pub onto-more : {from : ℕ} {rest rest' whole x o o' o₀ : List ℕ} {p q q' : ℕ} → rest ≡ x ++ rest' → Onto from rest q o whole p o₀ → Prints from x q o q' o' → Onto from rest' q' o' whole p o₀
onto-more {from} {x = x} {o = o} {q = q} e a b = record {
  whole_of = λ y. a.whole_of (rw e (put_then b y));
  length-of = ap length b.stored ∙ length-sets o (q - from) (drop (from - q) x) ∙ a.length-of;
}

pub onto-all : {from : ℕ} {rest whole o o₀ : List ℕ} {p q : ℕ} → rest ≡ [] → Onto from rest q o whole p o₀ → Prints from whole p o₀ q o
onto-all {from} {o = o} {q = q} e a = a.whole_of (rw e (put-nil from q o))

-- ---- the elements of a slice

-- those before i are written
pub record Each (from : ℕ) (k : ℕ → List ℕ) (s : List ℕ) (i q : ℕ) (o : List ℕ) (p : ℕ) (o₀ : List ℕ) : Type 0 where
  pub within : i ≤ length s
  pub onto : Onto from (concat_map k (drop i s)) q o (concat_map k s) p o₀

pub each_none : {from : ℕ} {k : ℕ → List ℕ} {s o : List ℕ} {p : ℕ} → Each from k s 0 p o p o
each_none = record { within = omega arith; onto = onto-none }

pub each_more : {from : ℕ} {k : ℕ → List ℕ} {s o o' o₀ : List ℕ} {i p q q' : ℕ} → i < length s → Each from k s i q o p o₀ → Prints from (k (get_or s i 0)) q o q' o' → Each from k s (i + 1) q' o' p o₀
unfolding concat_map
each_more {k = k} {s = s} {i = i} h a b = record { within = omega arith; onto = onto-more (rw (drop-cons s i 0 h, add-one i) refl) a.onto b }

pub each_all : {from : ℕ} {k : ℕ → List ℕ} {s o o₀ : List ℕ} {i p q : ℕ} → length s ≤ i → Each from k s i q o p o₀ → Prints from (concat_map k s) p o₀ q o
unfolding concat_map
each_all {k = k} {s = s} {i = i} h a = onto-all (ap (concat_map k) (drop_of_length-le s h)) a.onto

pub each-length : {from : ℕ} {k : ℕ → List ℕ} {s o o₀ : List ℕ} {i p q : ℕ} → Each from k s i q o p o₀ → length o ≡ length o₀
each-length a = a.onto.length-of

-- each element as it is
pub ones : (s : List ℕ) → concat_map (λ b. b ∷ []) s ≡ s
unfolding concat_map
ones [] = refl
ones (b ∷ s) = ap (λ (l : List ℕ). b ∷ l) (ones s)

-- ---- the units of a slice

-- those before i are written
pub record Units (from : ℕ) (s : List ℕ) (n i q : ℕ) (o : List ℕ) (p : ℕ) (o₀ : List ℕ) : Type 0 where
  pub within : 2 * i ≤ length s
  pub onto : Onto from (concat_map escape (units_of (n - i) (drop (2 * i) s))) q o (concat_map escape (units_of n s)) p o₀

pub units-none : {from : ℕ} {s o : List ℕ} {n p : ℕ} → Units from s n 0 p o p o
units-none {n = n} = let e : n - 0 ≡ n = omega arith in record { within = omega arith; onto = rw e onto-none }

one_more : (s : List ℕ) (n i : ℕ) → 2 * i + 1 < length s → i < n → concat_map escape (units_of (n - i) (drop (2 * i) s))
    ≡ escape (get_or s (2 * i) 0 + 256 * get_or s (2 * i + 1) 0) ++ concat_map escape (units_of (n - (i + 1)) (drop (2 * (i + 1)) s))
unfolding units_of concat_map
one_more s n i h g =
    let e : n - i ≡ suc (n - (i + 1)) = omega arith in
    let f : 2 * (i + 1) ≡ suc (suc (2 * i)) = omega arith in
    rw (e, f, drop-cons s (2 * i) 0 (omega arith), drop-cons s (suc (2 * i)) 0 (omega arith), ← add-one (2 * i)) refl

pub units-more : {from : ℕ} {s o o' o₀ : List ℕ} {n i p q q' : ℕ} → i < n → 2 * i + 1 < length s → Units from s n i q o p o₀
    → Prints from (escape (get_or s (2 * i) 0 + 256 * get_or s (2 * i + 1) 0)) q o q' o' → Units from s n (i + 1) q' o' p o₀
units-more {s = s} {n = n} {i = i} g h a b = record { within = omega arith; onto = onto-more (one_more s n i h g) a.onto b }

units-of-none : (s : List ℕ) (left : ℕ) → length s < 2 → units_of left s ≡ []
unfolding units_of
units-of-none s zero h = refl
units-of-none [] (suc left) h = refl
units-of-none (b ∷ []) (suc left) h = refl
units-of-none (b ∷ c ∷ s) (suc left) h = absurd (omega arith)

none-left : (s : List ℕ) (n i : ℕ) → min n (length s / 2) ≤ i → units_of (n - i) (drop (2 * i) s) ≡ []
unfolding units_of
none-left s n i h = by (n - i) refl where
  by : (left : ℕ) → n - i ≡ left → units_of left (drop (2 * i) s) ≡ []
  by zero e = refl
  by (suc left) e = units-of-none (drop (2 * i) s) (suc left) (simp length-drop (omega arith))

pub units-all : {from : ℕ} {s o o₀ : List ℕ} {n i p q : ℕ} → min n (length s / 2) ≤ i → Units from s n i q o p o₀
    → Prints from (concat_map escape (units_of n s)) p o₀ q o
unfolding concat_map
units-all {s = s} {n = n} {i = i} h a = onto-all (ap (concat_map escape) (none-left s n i h)) a.onto

pub units-length : {from : ℕ} {s o o₀ : List ℕ} {n i p q : ℕ} → Units from s n i q o p o₀ → length o ≡ length o₀
units-length a = a.onto.length-of

pub ruleset needs = (kit.rules, each_none, each_more, each_all, each-length, units-none, units-more, units-all, units-length)
