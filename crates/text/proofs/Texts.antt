-- Each from text as a write of its parts: what `search` makes the answers of the functions from.
use Prim.Native.Nat.{ℕ, ◌+◌, ◌/◌, ◌%◌, ◌^◌, ◌≤◌, ◌<◌}
use mathlib.Core.Path.{◌≡◌}
use mathlib.Core.Bool.{true, false}
use mathlib.Core.List.{List, [], ◌∷◌}
use Rattle.text.specs.Prints.{Prints}
use Rattle.text.proofs.Prints.{put_then}
use Rattle.text.specs.Text.{digit, hex, decimal, coded, is_coded, escape, keyed, line}
use Rattle.text.proofs.Digits.{hex-2, hex-4, hex-8, decimal-low, decimal-high, escape-coded, escape-itself}

-- the text may be given by what it equals
pub put_same : {from : ℕ} {xs ys o o' : List ℕ} {p r : ℕ} → Prints from xs p o r o' → xs ≡ ys → Prints from ys p o r o'
put_same a e = rw e at a

module _ {o o₁ o₂ : List ℕ} {p q r : ℕ} where
  pub put-hex-2 : {from : ℕ} {a b : ℕ} (n : ℕ) → a ≡ digit (n / 16 % 16) → b ≡ digit (n % 16) → Prints from (a ∷ []) p o q o₁ → Prints from (b ∷ []) q o₁ r o₂
      → Prints from (hex 2 n) p o r o₂
  put-hex-2 n d e x y = put_same (put_then x y) (hex-2 n d e)

  pub put-hex-4 : {from : ℕ} (n : ℕ) → Prints from (hex 2 (n / 256)) p o q o₁ → Prints from (hex 2 n) q o₁ r o₂ → Prints from (hex 4 n) p o r o₂
  put-hex-4 n x y = put_same (put_then x y) (hex-4 n)

  pub put-hex-8 : {from : ℕ} (n : ℕ) → Prints from (hex 4 (n / 65536)) p o q o₁ → Prints from (hex 4 n) q o₁ r o₂ → Prints from (hex 8 n) p o r o₂
  put-hex-8 n x y = put_same (put_then x y) (hex-8 n)

  pub put-coded : {from : ℕ} (u : ℕ) → Prints from (92 ∷ []) p o q o₁ → Prints from (hex 4 u) q o₁ r o₂ → Prints from (coded u) p o r o₂
  unfolding coded
  put-coded u x y = put_then x y

  pub put-digits : {from : ℕ} (n : ℕ) → 10 ≤ n → n < 2 ^ 64 → Prints from (decimal (n / 10)) p o q o₁ → Prints from ((48 + n % 10) ∷ []) q o₁ r o₂ → Prints from (decimal n) p o r o₂
  put-digits n h m x y = put_same (put_then x y) (decimal-high n h m)

  pub put-keyed : {from : ℕ} {key : List ℕ} → Prints from key p o q o₁ → Prints from (61 ∷ []) q o₁ r o₂ → Prints from (keyed key) p o r o₂
  unfolding keyed
  put-keyed x y = put_then x y

module _ {o o₁ : List ℕ} {p r : ℕ} where
  pub put-digit : {from : ℕ} (n : ℕ) → n < 10 → Prints from ((48 + n) ∷ []) p o r o₁ → Prints from (decimal n) p o r o₁
  put-digit n h x = put_same x (decimal-low n h)

  pub put-as-code : {from : ℕ} (u : ℕ) → is_coded u ≡ true → Prints from (coded u) p o r o₁ → Prints from (escape u) p o r o₁
  put-as-code u e x = put_same x (escape-coded u e)

  pub put-itself : {from : ℕ} (u : ℕ) → is_coded u ≡ false → Prints from (u ∷ []) p o r o₁ → Prints from (escape u) p o r o₁
  put-itself u e x = put_same x (escape-itself u e)

pub put-line : {from : ℕ} (key value : List ℕ) {o o₁ o₂ o₃ : List ℕ} {p q r t : ℕ}
    → Prints from (keyed key) p o q o₁ → Prints from value q o₁ r o₂ → Prints from (10 ∷ []) r o₂ t o₃ → Prints from (line key value) p o t o₃
unfolding line
put-line key value k v e = put_then k (put_then v e)

pub ruleset texts = (put-hex-2, put-hex-4, put-hex-8, put-coded, put-digit, put-digits, put-as-code, put-itself, put-keyed, put-line)
