-- The entries whose identifiers are listed, a bit each, by one range after the other. Assumes nothing.
use Rattle.std.proofs.Common.{◌≡◌, ℕ, zero, suc, ◌+◌, ◌<◌, ◌≤◌, Bool, true, false, ◌&&◌, ◌||◌, eqb, ltb, List, [], ◌∷◌, length, get_or, replicate, sym, refl, ap, ◌∙◌, subst, ap₂, arith, ltb-true, le-ltb, lt-ltb, eqb-true}
use mathlib.Core.Bool.{or-false, and-false}
use borrow.Author.Tests.{eqb-false}
use Rattle.std.specs.Prelude.{Some, None}
use Rattle.format.specs.Format.{pick}
use Rattle.format.specs.Fault.{any}
use Rattle.format.proofs.Bools.{neither}
use Rattle.patching.specs.Bits.{packs}
use Rattle.patching.specs.Entry.{Entry, identifier}
use Rattle.patching.specs.Book.{among, drops}
use Rattle.patching.proofs.Cases.{same_test}
use Rattle.patching.proofs.Digits.{packs-ext-in}
use Rattle.patching.proofs.Fields.{narrow}
use Rattle.unpatch.specs.Unpatch.{identifiers_of, has_bit, with_bit, within, lies_in, Offset, marks, found, found_below}
use Rattle.unpatch.proofs.Marks.{has-bit, with-bit, no_bits}
use Rattle.unpatch.proofs.Listed.{by_name}
use Rattle.unpatch.proofs.Ranges.{inside, outside, below_end, marked}

module _ (ids : List ℕ) (xs : List Entry) where
  -- ahead of the first range
  pub found_none : replicate 4 0 ≡ found_below 0 ids xs
  found_none = no_bits 0 4 ∙ packs-ext-in (λ (j : ℕ). false) (found 0 ids xs) 0 4 (λ j a b. sym (go j (identifier (get_or xs j 0))))
    where
      go : (j : ℕ) (k : ℕ) → (ltb j (length xs) && (ltb k 0 && among ids k)) ≡ false
      go j k = ap (λ (t : Bool). ltb j (length xs) && (t && among ids k)) (le-ltb k 0 (omega arith)) ∙ and-false (ltb j (length xs))

  -- behind the last
  found-listed : (i : ℕ) {ws : List ℕ} → ws ≡ found_below 65664 ids xs → i < length xs → length xs ≤ 256
      → has_bit ws i ≡ among ids (identifier (get_or xs i 0))
  found-listed i e h short =
      let k : ℕ = identifier (get_or xs i 0) in
      ap (λ (l : List ℕ). has_bit l i) e
      ∙ has-bit (found 65664 ids xs) 4 i (omega arith)
      ∙ ap₂ (λ (a b : Bool). a && (b && among ids k)) (lt-ltb i (length xs) h) (lt-ltb k 65664 (omega (arith, narrow (get_or xs i 0))))

-- where an identifier is listed, these are the entries that are dropped
pub found-dropped : (s : List ℕ) (xs : List Entry) (i : ℕ) {ws : List ℕ} → 2 ≤ length s → ws ≡ found_below 65664 (identifiers_of s) xs
    → i < length xs → length xs ≤ 256 → has_bit ws i ≡ drops (identifiers_of s) (identifier (get_or xs i 0))
found-dropped s xs i some e h short = found-listed (identifiers_of s) xs i e h short ∙ sym (by_name s (omega arith) (identifier (get_or xs i 0)))

module _ (base : ℕ) (ids : List ℕ) (xs : List Entry) where
  abbrev k : ℕ → ℕ
  k j = identifier (get_or xs j 0)

  -- the j-th entry, by a bound of its own
  abbrev by : ℕ → ℕ → Bool
  by bound j = ltb j (length xs) && (ltb (k j) bound && among ids (k j))

  -- the range is looked at in the first i entries
  abbrev found_to : ℕ → ℕ → Bool
  found_to i j = by (pick (ltb j i) (base + 21888) base) j

  no-entry : (j a b : ℕ) → ltb j (length xs) ≡ false → by a j ≡ by b j
  no-entry j a b e =
      ap (λ (t : Bool). t && (ltb (k j) a && among ids (k j))) e ∙ sym (ap (λ (t : Bool). t && (ltb (k j) b && among ids (k j))) e)

  none-at : (ys : List Entry) (j : ℕ) → any (lies_in base) ys ≡ false → j < length ys → lies_in base (get_or ys j 0) ≡ false
  unfolding any
  none-at [] j e h = absurd (omega arith)
  none-at (y ∷ ys) zero e h = (neither (lies_in base y) (any (lies_in base) ys) e).0
  none-at (y ∷ ys) (suc j) e h = none-at ys j (neither (lies_in base y) (any (lies_in base) ys) e).1 (omega arith)

  -- no entry lies in the range
  pub found-same : any (lies_in base) xs ≡ false → found_below base ids xs ≡ found_below (base + 21888) ids xs
  found-same n = packs-ext-in (by base) (by (base + 21888)) 0 4 (λ j a b. go j (ltb j (length xs)) refl)
    where
      go : (j : ℕ) (t : Bool) → ltb j (length xs) ≡ t → by base j ≡ by (base + 21888) j
      go j true e =
          ap (λ (t : Bool). ltb j (length xs) && (t && among ids (k j)))
          (sym (or-false (ltb (k j) base))
          ∙ ap (λ (t : Bool). ltb (k j) base || t) (sym (none-at xs j n (ltb-true j (length xs) e)))
          ∙ sym (below_end base (k j)))
      go j false e = no-entry j base (base + 21888) e

  start : found_below base ids xs ≡ packs (found_to 0) 0 4
  start = packs-ext-in (by base) (found_to 0) 0 4 (λ j a b. ap (λ (t : Bool). by (pick t (base + 21888) base) j) (sym (le-ltb j 0 (omega arith))))

  end : (i : ℕ) → length xs ≤ i → packs (found_to i) 0 4 ≡ found_below (base + 21888) ids xs
  end i h = packs-ext-in (found_to i) (by (base + 21888)) 0 4 (λ j a b. go j (ltb j (length xs)) refl)
    where
      go : (j : ℕ) (t : Bool) → ltb j (length xs) ≡ t → found_to i j ≡ by (base + 21888) j
      go j true e =
          let l : j < length xs = ltb-true j (length xs) e in
          ap (λ (t : Bool). by (pick t (base + 21888) base) j) (lt-ltb j i (omega arith))
      go j false e = no-entry j (pick (ltb j i) (base + 21888) base) (base + 21888) e

  module _ (i : ℕ) (h : i < length xs) where
    -- one more entry
    turn : (b : Bool) → (within base (k i) && among ids (k i)) ≡ b → (j : ℕ) → (found_to i j || (b && eqb j i)) ≡ found_to (i + 1) j
    turn b e j = go (eqb j i) refl
      where
        either : (a w d : Bool) → (w && d) ≡ b → ((a && d) || (b && true)) ≡ ((a || w) && d)
        either true w true e = refl
        either true w false e = ap (λ (t : Bool). t && true) (sym e ∙ and-false w)
        either false true true e = ap (λ (t : Bool). t && true) (sym e)
        either false true false e = ap (λ (t : Bool). t && true) (sym e)
        either false false d e = ap (λ (t : Bool). t && true) (sym e)

        here : (found_to i i || (b && true)) ≡ found_to (i + 1) i
        here =
            ap₂ (λ (s t : Bool). (s && (ltb (k i) (pick t (base + 21888) base) && among ids (k i))) || (b && true))
            (lt-ltb i (length xs) h)
            (le-ltb i i (omega arith))
            ∙ either (ltb (k i) base) (within base (k i)) (among ids (k i)) e
            ∙ ap (λ (t : Bool). t && among ids (k i)) (sym (below_end base (k i)))
            ∙ sym (ap₂ (λ (s t : Bool). s && (ltb (k i) (pick t (base + 21888) base) && among ids (k i)))
            (lt-ltb i (length xs) h)
            (lt-ltb i (i + 1) (omega arith)))

        go : (t : Bool) → eqb j i ≡ t → (found_to i j || (b && t)) ≡ found_to (i + 1) j
        go true q = subst (λ (m : ℕ). (found_to i m || (b && true)) ≡ found_to (i + 1) m) (sym (eqb-true j i q)) here
        go false q =
            let n : j ≡ i → ⊥ = eqb-false j i q in
            ap (λ (t : Bool). found_to i j || t) (and-false b)
            ∙ or-false (found_to i j)
            ∙ ap (λ (t : Bool). by (pick t (base + 21888) base) j) (same_test j i j (i + 1) (λ l. omega arith) (λ l. omega arith))

-- the bits of a range's words are looked at in the first i entries
pub record Finding (base : ℕ) (ids : List ℕ) (xs : List Entry) (words ws : List ℕ) (i : ℕ) : Type 0 where
  pub passed : i ≤ length xs
  pub marked : words ≡ marks base ids
  pub bits : ws ≡ packs (found_to base ids xs i) 0 4

pub find-start : {base : ℕ} {ids : List ℕ} {xs : List Entry} {words ws : List ℕ} → words ≡ marks base ids → ws ≡ found_below base ids xs
    → Finding base ids xs words ws 0
find-start {base} {ids} {xs} e f = record { passed = omega arith; marked = e; bits = f ∙ start base ids xs }

module _ {base : ℕ} {ids : List ℕ} {xs : List Entry} {words ws : List ℕ} {i : ℕ} (f : Finding base ids xs words ws i) where
  pub find-end : length xs ≤ i → ws ≡ found_below (base + 21888) ids xs
  find-end h = f.bits ∙ end base ids xs i h

  module _ (h : i < length xs) where
    abbrev id : ℕ
    id = identifier (get_or xs i 0)

    abbrev now : ℕ → Bool
    now = found_to base ids xs i

    abbrev next : ℕ → Bool
    next = found_to base ids xs (i + 1)

    pass : (within base id && among ids id) ≡ false → Finding base ids xs words ws (i + 1)
    pass e = record {
      passed = omega arith;
      marked = f.marked;
      bits = f.bits ∙ packs-ext-in now next 0 4 (λ j a b. sym (or-false (now j)) ∙ turn base ids xs i h false e j);
    }

    pub find-outside : Offset base id None → Finding base ids xs words ws (i + 1)
    find-outside o = pass (ap (λ (t : Bool). t && among ids id) (outside base id o))

    module _ (r : ℕ) (o : Offset base id (Some r)) where
      listed_by : (b : Bool) → has_bit words r ≡ b → (within base id && among ids id) ≡ b
      listed_by b e = ap₂ (λ (s t : Bool). s && t) (inside base id r o) (sym (marked base id r ids f.marked o) ∙ e)

      pub find-not : has_bit words r ≡ false → Finding base ids xs words ws (i + 1)
      find-not e = pass (listed_by false e)

      pub find-one : {vs : List ℕ} → length xs ≤ 256 → has_bit words r ≡ true → vs ≡ with_bit ws i → Finding base ids xs words vs (i + 1)
      find-one short e v = record {
        passed = omega arith;
        marked = f.marked;
        bits = v
            ∙ ap (λ (t : List ℕ). with_bit t i) f.bits
            ∙ with-bit now 4 i (omega arith)
            ∙ packs-ext-in (λ (j : ℕ). now j || eqb j i) next 0 4 (λ j a b. turn base ids xs i h true (listed_by true e) j);
      }
