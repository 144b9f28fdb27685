-- A universe by words of 64 channels: the count and the first free one, a word further. Assumes nothing.
use Rattle.std.proofs.Common.{◌≡◌, ℕ, ◌+◌, ◌-◌, ◌*◌, ◌^◌, ◌<◌, ◌≤◌, Bool, not, List, get_or, sym, ap, ◌∙◌, arith, lt-ltb}
use lib.Count.{ones, count_trailing_zeros}
use Rattle.format.specs.Format.{pick}
use mathlib.Core.Option.{none, some}
use Rattle.patching.specs.Bits.{pack, many, first}
use Rattle.patching.specs.Book.{universe_words, below}
use Rattle.patching.proofs.Digits.{pack-ext, pack-not, packs-at, ones-pack, trailing-pack, many-add, first_on, first_found, first-le}

-- p says which channels are taken; word k of its words
module _ (p : ℕ → Bool) (ws : List ℕ) (e : ws ≡ universe_words p) (k : ℕ) (h : k < 8) where
  abbrev free : ℕ → Bool
  free c = not (p c)

  abbrev w : ℕ
  w = get_or ws k 0

  word : w ≡ pack (λ j. p (k * 64 + j)) 64
  word =
      ap (λ (l : List ℕ). get_or l k 0) e
      ∙ packs-at p 0 8 k h
      ∙ pack-ext (λ j. p (0 + k * 64 + j)) (λ j. p (k * 64 + j)) 64 (λ j l. let q : 0 + k * 64 + j ≡ k * 64 + j = omega arith in ap p q)

  pub ones-word : many p (k * 64) + ones w ≡ many p (k * 64 + 64)
  ones-word = ap (λ (n : ℕ). many p (k * 64) + n) (ap ones word ∙ ones-pack (λ j. p (k * 64 + j)) 64) ∙ sym (many-add p (k * 64) 64)

  zeros-word : count_trailing_zeros 64 ((2 ^ 64 - 1) - w) ≡ first (λ j. free (k * 64 + j)) 64
  zeros-word = ap (count_trailing_zeros 64) (ap (λ (n : ℕ). (2 ^ 64 - 1) - n) word ∙ pack-not (λ j. p (k * 64 + j)) 64) ∙ trailing-pack (λ j. free (k * 64 + j)) 64

  pub found : first free (k * 64) ≡ k * 64 → count_trailing_zeros 64 ((2 ^ 64 - 1) - w) < 64
      → some (k * 64 + count_trailing_zeros 64 ((2 ^ 64 - 1) - w)) ≡ below 512 (first free 512)
  found q z =
      let t : ℕ = count_trailing_zeros 64 ((2 ^ 64 - 1) - w) in
      let n : ℕ = 512 - (k * 64 + 64) in
      let a : first free (k * 64 + 64) ≡ k * 64 + first (λ j. free (k * 64 + j)) 64 = first_on free (k * 64) 64 q in
      let b : first free (k * 64 + 64) ≡ k * 64 + t = a ∙ ap (λ (n : ℕ). k * 64 + n) (sym zeros-word) in
      let c : first free (k * 64 + 64 + n) ≡ first free (k * 64 + 64) = first_found free (k * 64 + 64) n (omega arith) in
      let d : k * 64 + 64 + n ≡ 512 = omega arith in
      sym (ap (below 512) (ap (first free) (sym d) ∙ c ∙ b)
      ∙ ap (λ (b : Bool). pick b (some (k * 64 + t)) none) (lt-ltb (k * 64 + t) 512 (omega arith)))

  pub further : first free (k * 64) ≡ k * 64 → 64 ≤ count_trailing_zeros 64 ((2 ^ 64 - 1) - w) → first free (k * 64 + 64) ≡ k * 64 + 64
  further q z = first_on free (k * 64) 64 q ∙ omega (arith, zeros-word, first-le (λ j. free (k * 64 + j)) 64)
