-- Laws of digits and of escaped bytes and units.
use Prim.Native.Nat.{ℕ, zero, suc, ◌+◌, ◌-◌, ◌/◌, ◌%◌, ◌^◌, ◌≤◌, ◌<◌}
use mathlib.Core.Path.{◌≡◌, refl, sym, ap, ◌∙◌}
use mathlib.Core.Bool.{Bool, true, false, ◌||◌, true≢false}
use mathlib.Core.List.{List, [], ◌∷◌, ◌++◌}
use native.Mathlib.Nat.{div-div-eq-div-mul, div-one, div-lt_iff_lt-mul, pow-suc}
use native.Mathlib.Omega.{arith}
use borrow.Author.Tests.{ltb-false, lt-ltb, le-ltb}
use lib.Dec.{ltb}
use Rattle.format.specs.Format.{pick}
use Rattle.text.specs.Text.{digit, hex, decimal_up_to, decimal, coded, is_coded, escape}

pub digit_low : (d : ℕ) → d < 10 → 48 + d ≡ digit d
unfolding digit
digit_low d h = rw (lt-ltb d 10 h) refl

pub digit-high : (d : ℕ) → 10 ≤ d → 65 + (d - 10) ≡ digit d
unfolding digit
digit-high d h = rw (le-ltb d 10 h) (omega arith)

-- two digits, then four, then eight
pub hex-2 : {a b : ℕ} (n : ℕ) → a ≡ digit (n / 16 % 16) → b ≡ digit (n % 16) → a ∷ b ∷ [] ≡ hex 2 n
unfolding hex
hex-2 n p q = rw (p, q, div-one n) refl

pub hex-4 : (n : ℕ) → hex 2 (n / 256) ++ hex 2 n ≡ hex 4 n
unfolding hex
hex-4 n = rw (div-div-eq-div-mul n 256 16, div-div-eq-div-mul n 256 1) refl

pub hex-8 : (n : ℕ) → hex 4 (n / 65536) ++ hex 4 n ≡ hex 8 n
unfolding hex
hex-8 n =
    rw (div-div-eq-div-mul n 65536 4096, div-div-eq-div-mul n 65536 256, div-div-eq-div-mul n 65536 16, div-div-eq-div-mul n 65536 1) refl

-- room for more digits changes nothing
enough : (k n : ℕ) → n < 10 ^ suc k → decimal_up_to (suc k) n ≡ decimal_up_to (suc (suc k)) n
unfolding decimal_up_to
enough zero n h = rw (lt-ltb n 10 h) refl
enough (suc k) n h =
    let g : n / 10 < 10 ^ suc k = (div-lt_iff_lt-mul {k = 10} (omega arith)).1 (rw (pow-suc 10 (suc k)) at h) in
    ap (λ (l : List ℕ). pick (ltb n 10) ((48 + n) ∷ []) (l ++ ((48 + n % 10) ∷ []))) (enough k (n / 10) g)

last-digit : (k n : ℕ) → 10 ≤ n → decimal_up_to k (n / 10) ++ ((48 + n % 10) ∷ []) ≡ decimal_up_to (suc k) n
unfolding decimal_up_to
last-digit k n h = rw (le-ltb n 10 h) refl

pub decimal-low : (n : ℕ) → n < 10 → (48 + n) ∷ [] ≡ decimal n
unfolding decimal decimal_up_to
decimal-low n h = rw (lt-ltb n 10 h) refl

pub decimal-high : (n : ℕ) → 10 ≤ n → n < 2 ^ 64 → decimal (n / 10) ++ ((48 + n % 10) ∷ []) ≡ decimal n
unfolding decimal
decimal-high n h m =
    let g : n / 10 < 10 ^ 19 = omega arith in
    ap (λ (l : List ℕ). l ++ ((48 + n % 10) ∷ [])) (sym (enough 18 (n / 10) g)) ∙ last-digit 19 n h

pub itself-below : (u : ℕ) → is_coded u ≡ false → u ≤ 126
itself-below u = by (ltb u 32) (ltb 126 u) _ refl where
  by : (a b c : Bool) → ltb 126 u ≡ b → (a || (b || c)) ≡ false → u ≤ 126
  by true b c p e = absurd (true≢false e)
  by false true c p e = absurd (true≢false e)
  by false false c p e = ltb-false 126 u p

pub escape-coded : (u : ℕ) → is_coded u ≡ true → coded u ≡ escape u
unfolding escape
escape-coded u e = rw e refl

pub escape-itself : (u : ℕ) → is_coded u ≡ false → u ∷ [] ≡ escape u
unfolding escape
escape-itself u e = rw e refl
