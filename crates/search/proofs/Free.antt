-- Laws of what a search has passed.
use Prim.Native.Nat.{ℕ, ◌+◌, ◌-◌, ◌*◌, ◌/◌, ◌%◌, ◌≤◌, ◌<◌, min}
use mathlib.Core.Path.{◌≡◌, refl, sym, subst}
use mathlib.Core.Bool.{Bool, true, false}
use native.Mathlib.Omega.{arith}
use borrow.Author.Tests.{ltb-true, ltb-false}
use lib.Dec.{ltb}
use Rattle.search.specs.Free.{Rows, Free, First}

-- by cases on an order
pub split : (x m : ℕ) → (P : Type 0) → (x ≤ m → P) → (m < x → P) → P
split x m P f g = by (ltb m x) refl
  where
    by : (b : Bool) → ltb m x ≡ b → P
    by true e = g (ltb-true m x e)
    by false e = f (ltb-false m x e)

pub free-none : {f : ℕ → ℕ} {a b : ℕ} → b ≡ a → Free f a b
free-none e = record { rises = omega arith; free = λ k p q z. omega arith }

pub free-join : {f : ℕ → ℕ} {a b c : ℕ} → Free f a b → Free f b c → Free f a c
free-join {f} {a} {b} {c} x y = record { rises = omega arith; free = all }
  where
    all : (k : ℕ) → a ≤ k → k < c → f k ≡ 0 → ⊥
    all k p q z = split b k ⊥ (λ h. y.free k h q z) (λ h. x.free k p h z)

pub free-to : {f : ℕ → ℕ} {a b c : ℕ} → Free f a b → c ≡ b → Free f a c
free-to {f} {a} x e = subst (λ (n : ℕ). Free f a n) (sym e) x

pub free_one : {f : ℕ → ℕ} {a : ℕ} → (f a ≡ 0 → ⊥) → Free f a (a + 1)
free_one {f} {a} n = record { rises = omega arith; free = λ k p q z. let e : k ≡ a = omega arith in n (subst (λ (x : ℕ). f x ≡ 0) e z) }

pub free_more : {f : ℕ → ℕ} {a b c : ℕ} → Free f a b → (f b ≡ 0 → ⊥) → c ≡ b + 1 → Free f a c
free_more x n e = free-to (free-join x (free_one n)) e

-- a zero found behind what was passed
pub first-join : {f : ℕ → ℕ} {a b m r : ℕ} → Free f a b → First f b m r → First f a m r
first-join x y = record { passed = free-join x y.passed; within = y.within; ends = y.ends }

-- found in a part of what is searched
pub first-here : {f : ℕ → ℕ} {a b m n r : ℕ} → Free f a b → First f b m r → r < m → r ≤ n → First f a n r
first-here x y h l = record { passed = free-join x y.passed; within = l; ends = λ _. y.ends h }

-- no zero found: all was passed
pub first-free : {f : ℕ → ℕ} {a m r : ℕ} → First f a m r → m ≤ r → Free f a m
first-free x h = let w = x.within in free-to x.passed (omega arith)

-- a least that is not zero: of one byte, and of as many rows again below
pub row_one : (f : ℕ → ℕ) (k : ℕ) → (f k ≡ 0 → ⊥) → Rows f k 1
row_one f k n = record { free = λ l h z. let e : k + 16 * l ≡ k = omega arith in n (subst (λ (x : ℕ). f x ≡ 0) e z) }

pub rows-least : {f : ℕ → ℕ} {k : ℕ} (m : ℕ) {a b r : ℕ} → r ≡ min a b →
    ((a ≡ 0 → ⊥) → Rows f k m) → ((b ≡ 0 → ⊥) → Rows f (k + 16 * m) m) →
    (r ≡ 0 → ⊥) → Rows f k (m + m)
rows-least {f} {k} m least first next n = record { free = all }
  where
    all : (l : ℕ) → l < m + m → f (k + 16 * l) ≡ 0 → ⊥
    all l h z = split m l ⊥
        (λ g. let e : k + 16 * l ≡ k + 16 * m + 16 * (l - m) = omega arith in
        (next (λ y. n (omega arith))).free (l - m) (omega arith) (subst (λ (x : ℕ). f x ≡ 0) e z))
        (λ g. (first (λ y. n (omega arith))).free l g z)

-- m rows of sixteen, free in each of the sixteen columns
pub free-rows : {f : ℕ → ℕ} (m i : ℕ) → ((k : ℕ) → k < 16 → Rows f (i + k) m) → Free f i (i + 16 * m)
free-rows {f} m i all = record { rises = omega arith; free = one }
  where
    one : (k : ℕ) → i ≤ k → k < i + 16 * m → f k ≡ 0 → ⊥
    one k p q z =
        let e : i + (k - i) % 16 + 16 * ((k - i) / 16) ≡ k = omega arith in
        (all ((k - i) % 16) (omega arith)).free ((k - i) / 16) (omega arith) (subst (λ (x : ℕ). f x ≡ 0) (sym e) z)
