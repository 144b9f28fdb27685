-- A search that passed no zero and ends at one, or at the end, has counted what stands before the zero.
use Prim.Native.Nat.{zero-le, ℕ, zero, suc, ◌+◌, ◌-◌, ◌*◌, ◌/◌, ◌≤◌, ◌<◌, max}
use mathlib.Core.Path.{◌≡◌, refl, sym, ap, ◌∙◌}
use mathlib.Core.Bool.{Bool, true, false}
use mathlib.Core.List.{List, [], ◌∷◌}
use native.Mathlib.Omega.{arith}
use borrow.Author.Tests.{eq-eqb, ne_eqb, lt-ltb, le-ltb, ltb-true, ltb-false}
use lib.Dec.{eqb, ltb}
use lib.ListN.{length, take, drop, length-drop, drop_of_length-le}
use lib.Seq.{take_all, get_or-drop}
use Rattle.std.specs.Prelude.{Option, Some, None}
use Rattle.search.specs.Zero.{unless, only_if, before_zero, units_before_zero, bytes_to_zero, units_to_zero}
use Rattle.search.specs.Free.{byte_of, unit_of, Free, First}

-- the first zero of a list
bytes_counted : (t : List ℕ) (n : ℕ) → ((k : ℕ) → k < n → byte_of t k ≡ 0 → ⊥) → (n < length t → byte_of t n ≡ 0) → n ≡ before_zero t
unfolding before_zero
bytes_counted [] zero free ends = refl
bytes_counted [] (suc n) free ends = absurd (free 0 (omega arith) refl)
bytes_counted (b ∷ t) zero free ends = rw (eq-eqb b 0 (ends (omega arith)))
bytes_counted (b ∷ t) (suc n) free ends =
    rw (ne_eqb b 0 (free 0 (omega arith))) (ap suc (bytes_counted t n (λ k h. free (suc k) (omega arith)) (λ h. ends (omega arith))))

next-unit : (b c : ℕ) (t : List ℕ) (k : ℕ) → unit_of (b ∷ c ∷ t) 0 (suc k) ≡ unit_of t 0 k
next-unit b c t k =
    let low : 0 + 2 * suc k ≡ suc (suc (0 + 2 * k)) = omega arith in
    let high : suc (suc (0 + 2 * k)) + 1 ≡ suc (suc (0 + 2 * k + 1)) = omega arith in
    rw (low, high)

units-counted : (t : List ℕ) (n : ℕ) → ((k : ℕ) → k < n → unit_of t 0 k ≡ 0 → ⊥) →
    2 * n ≤ length t → (2 * n + 1 < length t → unit_of t 0 n ≡ 0) → n ≡ units_before_zero t
unfolding units_before_zero
units-counted [] zero free within ends = refl
units-counted [] (suc n) free within ends = absurd (omega arith)
units-counted (b ∷ []) zero free within ends = refl
units-counted (b ∷ []) (suc n) free within ends = absurd (omega arith)
units-counted (b ∷ c ∷ t) zero free within ends = rw (eq-eqb (b + 256 * c) 0 (ends (omega arith)))
units-counted (b ∷ c ∷ t) (suc n) free within ends =
    let passed : (k : ℕ) → k < n → unit_of t 0 k ≡ 0 → ⊥ = λ k h z. free (suc k) (omega arith) (next-unit b c t k ∙ z) in
    let rest = units-counted t n passed (omega arith) (λ h. sym (next-unit b c t n) ∙ ends (omega arith)) in
    rw (ne_eqb (b + 256 * c) 0 (free 0 (omega arith))) (ap suc rest)

-- counted up to a zero, and up to the end
pub counted-here : (t : List ℕ) (i : ℕ) → Free (byte_of t) 0 i → i < length t → byte_of t i ≡ 0 → Some i ≡ bytes_to_zero t
counted-here t i x h z =
    let n : i ≡ before_zero t = bytes_counted t i (λ k l q. x.free k zero-le l q) (λ _. z) in
    rw (← n, lt-ltb i (length t) h) refl

pub counted_none : (t : List ℕ) (i : ℕ) → Free (byte_of t) 0 i → length t ≤ i → None ≡ bytes_to_zero t
counted_none t i x h =
    let n : i ≡ before_zero t = bytes_counted t i (λ k l q. x.free k zero-le l q) (λ l. absurd (omega arith)) in
    rw (← n, le-ltb i (length t) h) refl

module _ (s : List ℕ) (at : ℕ) where
  -- what is behind `at`, as a slice of its own
  abbrev behind : List ℕ
  behind = take (length s - at) (drop at s)

  pub counted-behind : {r : ℕ} → First (byte_of behind) 0 (length behind) r → r ≡ before_zero (drop at s)
  counted-behind {r} first =
      let x : First (byte_of (drop at s)) 0 (length (drop at s)) r = rw (take_all (length s - at) (drop at s) (omega (arith, length-drop at s))) at first in
      bytes_counted (drop at s) r (λ k h z. x.passed.free k zero-le h z) x.ends

  pub none-behind : length s ≤ at → None ≡ bytes_to_zero (drop at s)
  unfolding before_zero
  none-behind h = rw (drop_of_length-le s h) refl

  pub found-behind : {n : ℕ} {r : Option ℕ} → First (byte_of behind) 0 (length behind) n → r ≡ only_if (ltb n (length behind)) n → r ≡ bytes_to_zero (drop at s)
  found-behind {n} f e =
      let all : behind ≡ drop at s = take_all (length s - at) (drop at s) (omega (arith, length-drop at s)) in
      e ∙ rw (all, counted-behind f) refl

  pub few-behind : {r : Option ℕ} → r ≡ bytes_to_zero behind → r ≡ bytes_to_zero (drop at s)
  few-behind e =
      let all : behind ≡ drop at s = take_all (length s - at) (drop at s) (omega (arith, length-drop at s)) in
      e ∙ rw all refl

  pub near-behind : {n : ℕ} → First (byte_of behind) 0 (length behind) n → n < length behind → Some n ≡ bytes_to_zero (drop at s)
  near-behind {n} f h = found-behind f (rw (lt-ltb n (length behind) h) refl)

  dropped : (k : ℕ) → unit_of (drop at s) 0 k ≡ unit_of s at k
  dropped k =
      let low : at + (0 + 2 * k) ≡ at + 2 * k = omega arith in
      let high : at + (0 + 2 * k + 1) ≡ at + 2 * k + 1 = omega arith in
      rw (get_or-drop at s (0 + 2 * k) 0, get_or-drop at s (0 + 2 * k + 1) 0, low, high)

  pub units-are : {n : ℕ} → Free (unit_of s at) 0 n → at + 2 * n ≤ max at (length s) →
      (at + 2 * n + 1 < length s → unit_of s at n ≡ 0) → n ≡ units_before_zero (drop at s)
  units-are {n} x within ends =
      units-counted (drop at s) n
      (λ k h z. x.free k (omega arith) h (sym (dropped k) ∙ z))
      (omega (arith, length-drop at s))
      (λ h. dropped n ∙ ends (omega (arith, length-drop at s)))

-- n units of l bytes are followed by another
half : (n l : ℕ) → ltb n (l / 2) ≡ ltb (2 * n + 1) l
half n l = by (ltb n (l / 2)) refl
  where
    by : (b : Bool) → ltb n (l / 2) ≡ b → b ≡ ltb (2 * n + 1) l
    by true e = sym (lt-ltb (2 * n + 1) l (omega (arith, ltb-true n (l / 2) e)))
    by false e = sym (le-ltb (2 * n + 1) l (omega (arith, ltb-false n (l / 2) e)))

module _ (s : List ℕ) (at : ℕ) where
  pub units-none : length s < at → None ≡ units_to_zero (drop at s)
  unfolding units_before_zero
  units-none h = let past : length s ≤ at = omega arith in rw (drop_of_length-le s past) refl

  pub units-found : {n : ℕ} {r : Option ℕ} → n ≡ units_before_zero (drop at s) → r ≡ only_if (ltb n ((length s - at) / 2)) n → r ≡ units_to_zero (drop at s)
  units-found {n} e f = f ∙ rw (half n (length s - at), ← length-drop at s, e) refl

  pub units-near : {n : ℕ} → n ≡ units_before_zero (drop at s) → n < (length s - at) / 2 → Some n ≡ units_to_zero (drop at s)
  units-near {n} e h = units-found e (rw (lt-ltb n ((length s - at) / 2) h) refl)

-- no more stands before the zero than is there
pub before-within : (t : List ℕ) → before_zero t ≤ length t
unfolding before_zero
before-within [] = zero-le
before-within (b ∷ t) = by (eqb b 0) (before-within t) where
  by : (z : Bool) → before_zero t ≤ length t → unless z (suc (before_zero t)) ≤ suc (length t)
  by true h = zero-le
  by false h = omega arith
