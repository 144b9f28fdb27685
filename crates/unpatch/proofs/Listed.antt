-- The identifiers in a list's bytes, one more, and which fixtures they drop. Assumes nothing.
use Rattle.std.proofs.Common.{◌≡◌, ℕ, zero, suc, ◌+◌, ◌-◌, ◌*◌, ◌/◌, ◌<◌, ◌≤◌, Bool, true, false, ◌||◌, eqb, List, [], ◌∷◌, ◌++◌, length, get_or, drop, sym, refl, ap, ◌∙◌, suc-add, zero-add, arith, eq-eqb, ne_eqb}
use mathlib.Core.Bool.{or-false, or_assoc, or-true}
use lib.Dec.{eqb-suc-zero}
use Rattle.format.specs.Fault.{any}
use Rattle.format.specs.View.{units_of}
use Rattle.unpatch.specs.Unpatch.{identifiers_of, listed_at}
use Rattle.patching.specs.Book.{among, drops}

-- ---- an identifier in a list

pub among_none : (k : ℕ) → among [] k ≡ false
unfolding any
among_none k = refl

among-cons : (i : ℕ) (l : List ℕ) (k : ℕ) → among (i ∷ l) k ≡ (eqb i k || among l k)
unfolding any
among-cons i l k = refl

pub among_one : (i k : ℕ) → among (i ∷ []) k ≡ eqb i k
among_one i k = among-cons i [] k ∙ ap (λ (b : Bool). eqb i k || b) (among_none k) ∙ or-false (eqb i k)

among-append : (l m : List ℕ) (k : ℕ) → among (l ++ m) k ≡ (among l k || among m k)
among-append [] m k = ap (λ (b : Bool). b || among m k) (sym (among_none k))
among-append (i ∷ l) m k =
    among-cons i (l ++ m) k
    ∙ ap (λ (b : Bool). eqb i k || b) (among-append l m k)
    ∙ sym (or_assoc (eqb i k) (among l k) (among m k))
    ∙ ap (λ (b : Bool). b || among m k) (sym (among-cons i l k))

-- ---- the first n identifiers, and more

units-add : (n m : ℕ) (s : List ℕ) → 2 * n ≤ length s → units_of (n + m) s ≡ units_of n s ++ units_of m (drop (2 * n) s)
unfolding units_of
units-add zero m s h = ap (λ (k : ℕ). units_of k s) (zero-add m)
units-add (suc n) m [] h = absurd (omega arith)
units-add (suc n) m (b ∷ []) h = absurd (omega arith)
units-add (suc n) m (b ∷ c ∷ s) h =
    let e : 2 * suc n ≡ suc (suc (2 * n)) = omega arith in
    ap (λ (k : ℕ). units_of k (b ∷ c ∷ s)) (suc-add n m)
    ∙ ap (λ (l : List ℕ). (b + 256 * c) ∷ l) (units-add n m s (omega arith))
    ∙ ap (λ (k : ℕ). (b + 256 * c) ∷ units_of n s ++ units_of m (drop k (b ∷ c ∷ s))) (sym e)

first-unit : (s : List ℕ) (n : ℕ) → n + 1 < length s → units_of 1 (drop n s) ≡ (get_or s n 0 + 256 * get_or s (n + 1) 0) ∷ []
unfolding units_of
first-unit [] n h = absurd (omega arith)
first-unit (b ∷ []) n h = absurd (omega arith)
first-unit (b ∷ c ∷ s) zero h = refl
first-unit (b ∷ c ∷ s) (suc n) h =
    first-unit (c ∷ s) n (omega arith) ∙ ap (λ (m : ℕ). (get_or (c ∷ s) n 0 + 256 * get_or (b ∷ c ∷ s) m 0) ∷ []) (sym (suc-add n 1))

pub one-listed : (s : List ℕ) → length s / 2 ≡ 1 → identifiers_of s ≡ listed_at s 0 ∷ []
one-listed s e = ap (λ (n : ℕ). units_of n s) e ∙ first-unit s 0 (omega arith)

-- ---- what is dropped

-- where an identifier is listed, a fixture is dropped by name alone; where none is, every one
pub by_name : (s : List ℕ) → 1 ≤ length s / 2 → (k : ℕ) → drops (identifiers_of s) k ≡ among (identifiers_of s) k
unfolding units_of
by_name [] h k = absurd (omega arith)
by_name (b ∷ []) h k = absurd (omega arith)
by_name (b ∷ c ∷ s) h k =
    let e : length (b ∷ c ∷ s) / 2 ≡ suc (length s / 2) = omega arith in
    rw e refl

by-clearing : (s : List ℕ) → length s / 2 ≡ 0 → (k : ℕ) → drops (identifiers_of s) k ≡ true
unfolding units_of
by-clearing s e k = ap (λ (n : ℕ). drops (units_of n s) k) e

-- a fixture that is not listed is dropped exactly if none is
pub not_there : (s : List ℕ) (k : ℕ) → among (identifiers_of s) k ≡ false → eqb (length s / 2) 0 ≡ drops (identifiers_of s) k
not_there s k e = go (length s / 2) refl
  where
    go : (n : ℕ) → length s / 2 ≡ n → eqb n 0 ≡ drops (identifiers_of s) k
    go zero q = sym (by-clearing s q k)
    go (suc n) q = eqb-suc-zero n ∙ sym (by_name s (omega arith) k ∙ e)

-- ---- the list read one by one

module _ (s : List ℕ) (i : ℕ) (h : i < length s / 2) (k : ℕ) where
  -- the first identifiers, and one more
  pub among_next : among (units_of (i + 1) s) k ≡ (among (units_of i s) k || eqb (listed_at s i) k)
  among_next =
      ap (λ (l : List ℕ). among l k) (units-add i 1 s (omega arith) ∙ ap (λ (l : List ℕ). units_of i s ++ l) (first-unit s (2 * i) (omega arith)))
      ∙ among-append (units_of i s) (listed_at s i ∷ []) k
      ∙ ap (λ (b : Bool). among (units_of i s) k || b) (among_one (listed_at s i) k)

  pub not_yet : among (units_of i s) k ≡ false → (listed_at s i ≡ k → ⊥) → among (units_of (i + 1) s) k ≡ false
  not_yet e n = among_next ∙ ap (λ (b : Bool). b || eqb (listed_at s i) k) e ∙ ne_eqb (listed_at s i) k n

  pub found-there : listed_at s i ≡ k → drops (identifiers_of s) k ≡ true
  found-there e =
      let m : ℕ = length s / 2 - (i + 1) in
      let n : length s / 2 ≡ (i + 1) + m = omega arith in
      by_name s (omega arith) k
      ∙ ap (λ (t : ℕ). among (units_of t s) k) n
      ∙ ap (λ (l : List ℕ). among l k) (units-add (i + 1) m s (omega arith))
      ∙ among-append (units_of (i + 1) s) (units_of m (drop (2 * (i + 1)) s)) k
      ∙ ap (λ (b : Bool). b || among (units_of m (drop (2 * (i + 1)) s)) k)
      (among_next ∙ ap (λ (b : Bool). among (units_of i s) k || b) (eq-eqb (listed_at s i) k e) ∙ or-true (among (units_of i s) k))
