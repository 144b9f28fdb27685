-- Ranges of identifiers, and the identifiers of a range that are listed. Assumes nothing.
use Rattle.std.proofs.Common.{◌≡◌, ℕ, ◌+◌, ◌*◌, ◌/◌, ◌<◌, ◌≤◌, Bool, true, false, ◌&&◌, ◌||◌, eqb, ltb, leb, List, [], length, replicate, sym, refl, ap, ◌∙◌, ap₂, arith, ltb-false, ltb-true, le-ltb, lt-ltb, eq-eqb, ne_eqb, eqb-true, le-leb, leb-true}
use mathlib.Core.Bool.{and-false, or-false}
use borrow.Author.Tests.{eqb-false}
use Rattle.std.specs.Prelude.{Option, Some, None, is_some}
use Rattle.format.specs.View.{units_of}
use Rattle.patching.proofs.Digits.{packs-ext-in}
use Rattle.unpatch.specs.Unpatch.{identifiers_of, listed_at, has_bit, with_bit, within, Offset, marks}
use Rattle.patching.specs.Book.{among}
use Rattle.unpatch.proofs.Marks.{has-bit, with-bit, no_bits}
use Rattle.unpatch.proofs.Listed.{among_none, among_next}

-- ---- a range

module _ (base k : ℕ) where
  pub inside : (r : ℕ) → Offset base k (Some r) → within base k ≡ true
  inside r o = ap₂ (λ (a b : Bool). a && b) (le-leb base k (omega arith)) (lt-ltb k (base + 21888) (omega arith))

  pub outside : Offset base k None → within base k ≡ false
  outside o = go (leb base k) refl
    where
      go : (t : Bool) → leb base k ≡ t → within base k ≡ false
      go true e =
          ap (λ (b : Bool). leb base k && b) (le-ltb k (base + 21888) (o (leb-true base k e))) ∙ and-false (leb base k)
      go false e = ap (λ (b : Bool). b && ltb k (base + 21888)) e

pub within-some : (base k : ℕ) (r : Option ℕ) → Offset base k r → is_some r ≡ within base k
within-some base k (Some r) o = sym (inside base k r o)
within-some base k None o = sym (outside base k o)

-- below the end of a range is below its start, or within it
pub below_end : (base k : ℕ) → ltb k (base + 21888) ≡ (ltb k base || within base k)
below_end base k = go (ltb k base) refl
  where
    go : (t : Bool) → ltb k base ≡ t → ltb k (base + 21888) ≡ (t || within base k)
    go true e = let h : k < base = ltb-true k base e in lt-ltb k (base + 21888) (omega arith)
    go false e = ap (λ (b : Bool). b && ltb k (base + 21888)) (sym (le-leb base k (ltb-false k base e)))

-- ---- the identifiers of a range that are listed

pub no-marks : (base : ℕ) → replicate 342 0 ≡ marks base []
no-marks base =
    no_bits 0 342 ∙ packs-ext-in (λ (j : ℕ). false) (λ (j : ℕ). among [] (base + j)) 0 342 (λ j a b. sym (among_none (base + j)))

pub marked : (base k r : ℕ) (ids : List ℕ) {ws : List ℕ} → ws ≡ marks base ids → Offset base k (Some r) → has_bit ws r ≡ among ids k
marked base k r ids e o =
    ap (λ (l : List ℕ). has_bit l r) e ∙ has-bit (λ (j : ℕ). among ids (base + j)) 342 r (omega arith) ∙ ap (among ids) o.1

-- the first i identifiers of the list are marked
pub record Marking (base : ℕ) (s ws : List ℕ) (i : ℕ) : Type 0 where
  pub passed : i ≤ length s / 2
  pub words : ws ≡ marks base (units_of i s)

pub mark-none : {base : ℕ} {s ws : List ℕ} → ws ≡ marks base [] → Marking base s ws 0
unfolding units_of
mark-none e = record { passed = omega arith; words = e }

module _ {base : ℕ} {s ws : List ℕ} {i : ℕ} (m : Marking base s ws i) where
  abbrev p : ℕ → Bool
  p j = among (units_of i s) (base + j)

  abbrev q : ℕ → Bool
  q j = among (units_of (i + 1) s) (base + j)

  module _ (h : i < length s / 2) where
    pub mark-one : (r : ℕ) → Offset base (listed_at s i) (Some r) → {vs : List ℕ} → vs ≡ with_bit ws r → Marking base s vs (i + 1)
    mark-one r o e = record {
      passed = omega arith;
      words = e
          ∙ ap (λ (v : List ℕ). with_bit v r) m.words
          ∙ with-bit p 342 r (omega arith)
          ∙ packs-ext-in (λ (j : ℕ). p j || eqb j r) q 0 342 (λ j a b. ap (λ (t : Bool). p j || t) (same j (eqb j r) refl) ∙ sym (among_next s i h (base + j)));
    }
      where
        same : (j : ℕ) (t : Bool) → eqb j r ≡ t → t ≡ eqb (listed_at s i) (base + j)
        same j true e =
            let n : j ≡ r = eqb-true j r e in
            sym (eq-eqb (listed_at s i) (base + j) (omega arith))
        same j false e =
            let n : j ≡ r → ⊥ = eqb-false j r e in
            sym (ne_eqb (listed_at s i) (base + j) (λ t. n (omega arith)))

    pub mark-not : Offset base (listed_at s i) None → Marking base s ws (i + 1)
    mark-not o = record { passed = omega arith; words = m.words ∙ packs-ext-in p q 0 342 (λ j a b. sym (among_next s i h (base + j) ∙ other j b)) }
      where
        no : (j : ℕ) → j < 0 + 342 * 64 → listed_at s i ≡ base + j → ⊥
        no j b e = let f : base + 21888 ≤ listed_at s i = o (omega arith) in omega arith

        other : (j : ℕ) → j < 0 + 342 * 64 → (p j || eqb (listed_at s i) (base + j)) ≡ p j
        other j b = ap (λ (t : Bool). p j || t) (ne_eqb (listed_at s i) (base + j) (no j b)) ∙ or-false (p j)

  pub mark-all : length s / 2 ≤ i → ws ≡ marks base (identifiers_of s)
  mark-all h =
      let n : i ≡ length s / 2 = omega (arith, m.passed) in
      m.words ∙ ap (λ (t : ℕ). marks base (units_of t s)) n
