-- What prints alike is equal: numbers by their digits, strings, blocks; and so the lines that hold them.
use Prim.Native.Nat.{ℕ, zero, suc, ◌+◌, ◌-◌, ◌*◌, ◌/◌, ◌%◌, ◌^◌, ◌<◌, ◌≤◌}
use mathlib.Core.Path.{◌≡◌, refl, sym, ap, ◌∙◌}
use mathlib.Core.Bool.{Bool, true, false, ◌||◌}
use mathlib.Core.List.{List, [], ◌∷◌, ◌++◌, nil≢cons}
use native.Mathlib.Nat.{mod-one, mod-eq_of_lt, one-le-pow, pow-le-pow_right, pow-suc, pow-succ'}
use native.Mathlib.Omega.{arith}
use borrow.Author.Tests.{ltb-true, ltb-false, eqb-false}
use lib.Arith.{mod-mul}
use lib.Dec.{ltb, eqb}
use Rattle.format.specs.Format.{pick, concat_map, All}
use Rattle.format.proofs.Lists.{all_append, all-weaken}
use Rattle.text.specs.Text.{digit, hex, decimal_up_to, decimal, coded, escape, escaped, hex_block, line}
use Rattle.text.specs.Claims.{Backslash, EscapedInjective}
use Rattle.text.proofs.Delimited.{Delimited, injective, all-delimited, Printable, line-delimited}

-- the characters of many items
printable-all : {A : Type 0} (k : A → List ℕ) → ((x : A) → Printable (k x)) → (xs : List A) → Printable (concat_map k xs)
unfolding concat_map
printable-all k h [] = tt
printable-all k h (x ∷ xs) = all_append (λ c. 32 ≤ c) (k x) (concat_map k xs) (h x) (printable-all k h xs)

-- ---- hexadecimal digits

digit-same : (d e : ℕ) → digit d ≡ digit e → d ≡ e
unfolding digit
digit-same d e = by (ltb d 10) (ltb e 10) refl refl where
  by : (a b : Bool) → ltb d 10 ≡ a → ltb e 10 ≡ b → pick a (48 + d) (55 + d) ≡ pick b (48 + e) (55 + e) → d ≡ e
  by true true p q h = omega arith
  by true false p q h = omega (arith, ltb-true d 10 p, ltb-false e 10 q)
  by false true p q h = omega (arith, ltb-false d 10 p, ltb-true e 10 q)
  by false false p q h = omega arith

digit-printable : (d : ℕ) → 32 ≤ digit d
unfolding digit
digit-printable d = by (ltb d 10) where
  by : (a : Bool) → 32 ≤ pick a (48 + d) (55 + d)
  by true = omega arith
  by false = omega arith

hex-printable : (k n : ℕ) → Printable (hex k n)
unfolding hex
hex-printable zero n = tt
hex-printable (suc k) n = (digit-printable (n / 16 ^ k % 16), hex-printable k n)

last_digits : (k n : ℕ) → n % 16 ^ suc k ≡ (n / 16 ^ k % 16) * 16 ^ k + n % 16 ^ k
last_digits k n = rw (pow-succ' 16 k) (mod-mul n (omega arith) (one-le-pow k 16 (omega arith)))

-- as many digits, whatever stands behind them
hex-same : (k n m : ℕ) (r t : List ℕ) → hex k n ++ r ≡ hex k m ++ t → (n % 16 ^ k ≡ m % 16 ^ k) × (r ≡ t)
unfolding hex
hex-same zero n m r t e = (rw (mod-one n, mod-one m) refl, e)
hex-same (suc k) n m r t e =
    let first : n / 16 ^ k % 16 ≡ m / 16 ^ k % 16 = digit-same (n / 16 ^ k % 16) (m / 16 ^ k % 16) cc in
    let rest : (n % 16 ^ k ≡ m % 16 ^ k) × (r ≡ t) = hex-same k n m r t cc in
    (rw (last_digits k n, last_digits k m, first, rest.0) refl, rest.1)

hex-delimited : (k : ℕ) → Delimited (λ n. n < 16 ^ k) (hex k)
hex-delimited k n m r t hn hm e = let both = hex-same k n m r t e in (rw (mod-eq_of_lt hn, mod-eq_of_lt hm) at both.0, both.1)

-- ---- decimal digits

-- the number that has these digits, behind those of n
unfoldable valued : ℕ → List ℕ → ℕ
valued n [] = n
valued n (c ∷ s) = valued (10 * n + (c - 48)) s

valued-last : (n : ℕ) (s : List ℕ) (c : ℕ) → valued n (s ++ (c ∷ [])) ≡ 10 * valued n s + (c - 48)
unfolding valued
valued-last n [] c = refl
valued-last n (d ∷ s) c = valued-last (10 * n + (d - 48)) s c

decimal-valued : (k n : ℕ) → n < 10 ^ k → valued 0 (decimal_up_to k n) ≡ n
unfolding decimal_up_to valued
decimal-valued zero n h = omega arith
decimal-valued (suc k) n h = by (ltb n 10) (decimal-valued k (n / 10) (omega (arith, pow-suc 10 k))) where
  by : (a : Bool) → valued 0 (decimal_up_to k (n / 10)) ≡ n / 10 → valued 0 (pick a ((48 + n) ∷ []) (decimal_up_to k (n / 10) ++ ((48 + n % 10) ∷ []))) ≡ n
  by true e = omega arith
  by false e = rw (valued-last 0 (decimal_up_to k (n / 10)) (48 + n % 10), e) (omega arith)

decimal-printable : (k n : ℕ) → Printable (decimal_up_to k n)
unfolding decimal_up_to
decimal-printable zero n = tt
decimal-printable (suc k) n = by (ltb n 10) (decimal-printable k (n / 10)) where
  by : (a : Bool) → Printable (decimal_up_to k (n / 10)) → Printable (pick a ((48 + n) ∷ []) (decimal_up_to k (n / 10) ++ ((48 + n % 10) ∷ [])))
  by true h = (omega arith, tt)
  by false h = all_append (λ c. 32 ≤ c) (decimal_up_to k (n / 10)) ((48 + n % 10) ∷ []) h (omega arith, tt)

-- ---- strings and blocks

-- how a byte or unit prints: as itself, which is no backslash, or as a backslash and four digits
data Form (u : ℕ) : List ℕ → Type 0 where
  itself : 32 ≤ u → (u ≡ 92 → ⊥) → Form u (u ∷ [])
  escaping : Form u (92 ∷ hex 4 u)

form : (u : ℕ) → Form u (escape u)
unfolding escape coded
form u = by (ltb u 32) (ltb 126 u) (eqb u 92) refl refl where
  by : (a b c : Bool) → ltb u 32 ≡ a → eqb u 92 ≡ c → Form u (pick (a || (b || c)) (coded u) (u ∷ []))
  by true b c d e = escaping
  by false true c d e = escaping
  by false false true d e = escaping
  by false false false d e = itself (ltb-false u 32 d) (eqb-false u 92 e)

pub backslash : Backslash
unfolding escape coded hex digit
backslash = refl

-- the first character tells which form it is, and the form where it ends
form-same : {u v : ℕ} {x y : List ℕ} (r t : List ℕ) → u < 16 ^ 4 → v < 16 ^ 4 → Form u x → Form v y → x ++ r ≡ y ++ t → (u ≡ v) × (r ≡ t)
form-same r t hu hv (itself h n) (itself k m) e = (cc, cc)
form-same r t hu hv (itself h n) escaping e = absurd (n cc)
form-same r t hu hv escaping (itself k m) e = absurd (m cc)
form-same {u} {v} r t hu hv escaping escaping e = hex-delimited 4 u v r t hu hv cc

form-some : {u : ℕ} {x : List ℕ} (r : List ℕ) → Form u x → [] ≡ x ++ r → ⊥
form-some r (itself h n) e = nil≢cons e
form-some r escaping e = nil≢cons e

form-printable : {u : ℕ} {x : List ℕ} → Form u x → Printable x
form-printable (itself h n) = (h, tt)
form-printable {u} escaping = (omega arith, hex-printable 4 u)

escape-delimited : Delimited (λ u. u < 16 ^ 4) escape
escape-delimited u v r t hu hv = form-same r t hu hv (form u) (form v)

escaped-same : (s t : List ℕ) → All (λ u. u < 16 ^ 4) s → All (λ u. u < 16 ^ 4) t → escaped s ≡ escaped t → s ≡ t
escaped-same = all-delimited (λ u. u < 16 ^ 4) escape escape-delimited (λ u r. form-some r (form u))

in-four-digits : (w : ℕ) → w ≤ 2 → (u : ℕ) → u < 256 ^ w → u < 16 ^ 4
in-four-digits w h u k = omega (arith, pow-le-pow_right {n = 256} (omega arith) {i = w} {j = 2} h)

pub escaped-injective : EscapedInjective
escaped-injective w h s t hs ht = escaped-same s t
    (all-weaken (λ u. u < 256 ^ w) (λ u. u < 16 ^ 4) (in-four-digits w h) s hs)
    (all-weaken (λ u. u < 256 ^ w) (λ u. u < 16 ^ 4) (in-four-digits w h) t ht)

block_same : (s t : List ℕ) → All (λ b. b < 256) s → All (λ b. b < 256) t → hex_block s ≡ hex_block t → s ≡ t
unfolding hex
block_same = all-delimited (λ b. b < 256) (hex 2) (hex-delimited 2) (λ b r. nil≢cons)

-- ---- lines

pub decimal-line : (key : List ℕ) → Delimited (λ n. n < 10 ^ 20) (λ n. line key (decimal n))
unfolding decimal
decimal-line = line-delimited (λ n. n < 10 ^ 20) decimal (decimal-printable 20)
    λ n m hn hm e. sym (decimal-valued 20 n hn) ∙ ap (valued 0) e ∙ decimal-valued 20 m hm

pub hex-line : (key : List ℕ) → Delimited (λ n. n < 16 ^ 8) (λ n. line key (hex 8 n))
hex-line = line-delimited (λ n. n < 16 ^ 8) (hex 8) (hex-printable 8) (injective (λ n. n < 16 ^ 8) (hex 8) (hex-delimited 8))

pub escaped-line : (w : ℕ) → w ≤ 2 → (key : List ℕ) → Delimited (All (λ u. u < 256 ^ w)) (λ s. line key (escaped s))
escaped-line w h = line-delimited (All (λ u. u < 256 ^ w)) escaped (printable-all escape (λ u. form-printable (form u))) (escaped-injective w h)

pub block-line : (key : List ℕ) → Delimited (All (λ b. b < 256)) (λ s. line key (hex_block s))
block-line = line-delimited (All (λ b. b < 256)) hex_block (printable-all (hex 2) (hex-printable 2)) block_same
