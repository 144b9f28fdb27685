-- A bit of several words, read and set. Assumes nothing.
use Rattle.std.proofs.Common.{◌≡◌, ℕ, zero, suc, ◌+◌, ◌*◌, ◌/◌, ◌%◌, ◌^◌, ◌<◌, Bool, true, false, ◌||◌, eqb, List, ◌∷◌, length, set, replicate, sym, refl, ap, ◌∙◌, ap₂, pow-suc, arith, shr-shr, eq-eqb, ne_eqb, eqb-true}
use mathlib.Core.Bool.{or-false}
use lib.Bits.{bit_or}
use lib.Dec.{eqb-zero-suc, eqb-suc-zero, eqb-suc-suc}
use borrow.Author.Tests.{eqb-false}
use Rattle.patching.specs.Bits.{bit, pack, packs}
use Rattle.patching.proofs.Digits.{bit-mod, bit-div, pack-ext, or-pack, pack-false, packs-at, packs-set}
use Rattle.unpatch.specs.Unpatch.{has_bit, with_bit}

-- ---- a digit of one word

pack_one : (b d : ℕ) → b < d → pack (λ j. eqb j b) d ≡ 2 ^ b
unfolding pack
pack_one b zero h = absurd (omega arith)
pack_one zero (suc d) h =
    ap (λ (n : ℕ). 1 + 2 * n) (pack-ext (λ j. eqb (suc j) 0) (λ j. false) d (λ j l. eqb-suc-zero j) ∙ pack-false d)
pack_one (suc b) (suc d) h =
    ap₂ (λ (t : Bool) (n : ℕ). bit t + 2 * n) (eqb-zero-suc b)
    (pack-ext (λ j. eqb (suc j) (suc b)) (λ j. eqb j b) d (λ j l. eqb-suc-suc j b) ∙ pack_one b d (omega arith))
    ∙ omega (arith, pow-suc 2 b)

pack-digit : (p : ℕ → Bool) (b d : ℕ) → b < d → pack p d / 2 ^ b % 2 ≡ bit (p b)
unfolding pack
pack-digit p b zero h = absurd (omega arith)
pack-digit p zero (suc d) h = let n : ℕ = pack (λ j. p (suc j)) d in omega (arith, bit-mod (p 0) n)
pack-digit p (suc b) (suc d) h =
    let n : ℕ = pack (λ j. p (suc j)) d in
    let e : 1 + b ≡ suc b = omega arith in
    ap (λ (k : ℕ). (bit (p 0) + 2 * n) / 2 ^ k % 2) (sym e)
    ∙ ap (λ (m : ℕ). m % 2) (sym (shr-shr (bit (p 0) + 2 * n) 1 b))
    ∙ ap (λ (m : ℕ). m / 2 ^ b % 2) (bit-div (p 0) n)
    ∙ pack-digit (λ j. p (suc j)) b d (omega arith)

bit_test : (b : Bool) → eqb (bit b) 1 ≡ b
bit_test true = refl
bit_test false = refl

-- ---- a bit of several

module _ (p : ℕ → Bool) (n j : ℕ) (h : j < 64 * n) where
  k<n : j / 64 < n
  k<n = omega arith

  place : (0 + j / 64 * 64) + j % 64 ≡ j
  place = omega arith

  pub has-bit : has_bit (packs p 0 n) j ≡ p j
  has-bit =
      ap (λ (w : ℕ). eqb (w / 2 ^ (j % 64) % 2) 1) (packs-at p 0 n (j / 64) k<n)
      ∙ ap (λ (w : ℕ). eqb w 1) (pack-digit (λ i. p (0 + j / 64 * 64 + i)) (j % 64) 64 (omega arith))
      ∙ bit_test (p (0 + j / 64 * 64 + j % 64))
      ∙ ap p place

  q : ℕ → Bool
  q i = p i || eqb i j

  same_bit : (i : ℕ) → i < 64 → (p (0 + j / 64 * 64 + i) || eqb i (j % 64)) ≡ q (0 + j / 64 * 64 + i)
  unfolding q
  same_bit i l = ap (λ (t : Bool). p (0 + j / 64 * 64 + i) || t) (go (eqb i (j % 64)) refl)
    where
      go : (t : Bool) → eqb i (j % 64) ≡ t → t ≡ eqb (0 + j / 64 * 64 + i) j
      go true e = let m : i ≡ j % 64 = eqb-true i (j % 64) e in sym (eq-eqb (0 + j / 64 * 64 + i) j (omega arith))
      go false e = let m : i ≡ j % 64 → ⊥ = eqb-false i (j % 64) e in sym (ne_eqb (0 + j / 64 * 64 + i) j (λ s. m (omega arith)))

  other : (i : ℕ) → (i ≡ j → ⊥) → p i ≡ q i
  unfolding q
  other i l = sym (or-false (p i)) ∙ ap (λ (t : Bool). p i || t) (sym (ne_eqb i j l))

  pub with-bit : with_bit (packs p 0 n) j ≡ packs (λ (i : ℕ). p i || eqb i j) 0 n
  unfolding q
  with-bit =
      ap (set (packs p 0 n) (j / 64))
      (ap₂ bit_or (packs-at p 0 n (j / 64) k<n) (sym (pack_one (j % 64) 64 (omega arith)))
      ∙ or-pack (λ i. p (0 + j / 64 * 64 + i)) (λ i. eqb i (j % 64)) 64
      ∙ pack-ext (λ i. p (0 + j / 64 * 64 + i) || eqb i (j % 64)) (λ i. q (0 + j / 64 * 64 + i)) 64 same_bit)
      ∙ packs-set p q 0 n (j / 64) k<n (λ i l. other i (λ s. omega arith)) (λ i l. other i (λ s. omega arith))

-- ---- no bit set, and how many words

pub no_bits : (at n : ℕ) → replicate n 0 ≡ packs (λ (j : ℕ). false) at n
unfolding packs
no_bits at zero = refl
no_bits at (suc n) = ap₂ (λ (w : ℕ) (ws : List ℕ). w ∷ ws) (sym (pack-false 64)) (no_bits (at + 64) n)

bits-length : (p : ℕ → Bool) (at n : ℕ) → length (packs p at n) ≡ n
unfolding packs
bits-length p at zero = refl
bits-length p at (suc n) = ap suc (bits-length p (at + 64) n)

pub word_count : (p : ℕ → Bool) (n : ℕ) {ws : List ℕ} → ws ≡ packs p 0 n → length ws ≡ n
word_count p n e = ap length e ∙ bits-length p 0 n
