-- Words of tests: their digits, sums, counts and first ones. Assumes nothing.
use Prim.Native.Nat.{ℕ, zero, suc, ◌+◌, ◌*◌, ◌-◌, ◌/◌, ◌%◌, ◌^◌, ◌≤◌, ◌<◌, min, max}
use mathlib.Core.Path.{◌≡◌, refl, sym, ap, ap₂, ◌∙◌}
use mathlib.Core.Bool.{Bool, true, false, not, ◌&&◌, ◌||◌}
use mathlib.Core.List.{List, ◌∷◌}
use lib.ListN.{get_or, set}
use native.Mathlib.Omega.{arith}
use native.Mathlib.Nat.{pow-suc, zero-add, suc-add, add_assoc}
use lib.Dec.{ltb, leb-suc-suc}
use lib.Bits.{bit_or, or_step}
use lib.Count.{ones, count_trailing_zeros, under, ones_step}
use lib.Pow.{pow_pos}
use borrow.Author.Tests.{lt-ltb, le-ltb}
use Rattle.format.specs.Format.{pick}
use Rattle.patching.specs.Bits.{bit, pack, packs, many, first}

-- ---- the lowest digit, and the rest

pub bit-mod : (b : Bool) (n : ℕ) → (bit b + 2 * n) % 2 ≡ bit b
bit-mod true n = omega arith
bit-mod false n = omega arith

pub bit-div : (b : Bool) (n : ℕ) → (bit b + 2 * n) / 2 ≡ n
bit-div true n = omega arith
bit-div false n = omega arith

max-bit : (a b : Bool) → max (bit a) (bit b) ≡ bit (a || b)
max-bit true true = refl
max-bit true false = refl
max-bit false true = refl
max-bit false false = refl

-- ---- words

pub pack-ext : (p q : ℕ → Bool) (d : ℕ) → ((j : ℕ) → j < d → p j ≡ q j) → pack p d ≡ pack q d
unfolding pack
pack-ext p q zero h = refl
pack-ext p q (suc d) h =
    ap₂ (λ (a : Bool) (n : ℕ). bit a + 2 * n) (h 0 (omega arith))
    (pack-ext (λ j. p (suc j)) (λ j. q (suc j)) d (λ j l. h (suc j) (omega arith)))

pub or-pack : (p q : ℕ → Bool) (d : ℕ) → bit_or (pack p d) (pack q d) ≡ pack (λ j. p j || q j) d
unfolding pack
or-pack p q zero = refl
or-pack p q (suc d) =
    let a : ℕ = pack (λ j. p (suc j)) d in
    let b : ℕ = pack (λ j. q (suc j)) d in
    or_step (bit (p 0) + 2 * a) (bit (q 0) + 2 * b)
    ∙ ap₂ (λ (x y : ℕ). x * 2 + y)
    (ap₂ bit_or (bit-div (p 0) a) (bit-div (q 0) b) ∙ or-pack (λ j. p (suc j)) (λ j. q (suc j)) d)
    (ap₂ max (bit-mod (p 0) a) (bit-mod (q 0) b) ∙ max-bit (p 0) (q 0))
    ∙ omega arith

-- a word less a part of it
pub pack-less : (p q : ℕ → Bool) (d : ℕ) → ((j : ℕ) → p j ≡ true → q j ≡ true) → pack (λ j. q j && not (p j)) d + pack p d ≡ pack q d
unfolding pack
pack-less p q zero h = refl
pack-less p q (suc d) h = go (p 0) (q 0) _ _ (h 0) (pack-less (λ j. p (suc j)) (λ j. q (suc j)) d (λ j. h (suc j)))
  where
    go : (a b : Bool) (x y : ℕ) {z : ℕ} → (a ≡ true → b ≡ true) → x + y ≡ z → bit (b && not a) + 2 * x + (bit a + 2 * y) ≡ bit b + 2 * z
    go true true x y f e = omega arith
    go true false x y f e = let z : ◌≡◌ {A = Bool} false true = f refl in let w : ◌≡◌ {A = ℕ} 0 1 = ap bit z in omega arith
    go false true x y f e = omega arith
    go false false x y f e = omega arith

-- ---- the lowest n digits, and all

pub pack-all : (d : ℕ) → pack (λ j. true) d ≡ 2 ^ d - 1
unfolding pack
pack-all zero = refl
pack-all (suc d) = let e : pack (λ j. true) d ≡ 2 ^ d - 1 = pack-all d in omega (arith, pow-suc 2 d, pow_pos d)

pack-none : (d : ℕ) → pack (λ j. ltb j 0) d ≡ 0
unfolding pack
pack-none zero = refl
pack-none (suc d) =
    let e : pack (λ j. ltb j 0) d ≡ 0 = pack-none d in
    ap₂ (λ (a : Bool) (n : ℕ). bit a + 2 * n) (le-ltb 0 0 (omega arith))
    (pack-ext (λ j. ltb (suc j) 0) (λ j. ltb j 0) d (λ j l. le-ltb (suc j) 0 (omega arith) ∙ sym (le-ltb j 0 (omega arith))) ∙ e)

pub pack-below : (n d : ℕ) → n ≤ d → pack (λ j. ltb j n) d ≡ 2 ^ n - 1
unfolding pack
pack-below zero d h = pack-none d
pack-below (suc n) zero h = absurd (omega arith)
pack-below (suc n) (suc d) h =
    ap₂ (λ (a : Bool) (m : ℕ). bit a + 2 * m) (lt-ltb 0 (suc n) (omega arith))
    (pack-ext (λ j. ltb (suc j) (suc n)) (λ j. ltb j n) d (λ j l. leb-suc-suc (suc j) n) ∙ pack-below n d (omega arith))
    ∙ omega (arith, pow-suc 2 n, pow_pos n)

-- ---- counted, and the first

pub ones-pack : (p : ℕ → Bool) (d : ℕ) → ones (pack p d) ≡ many p d
unfolding pack many ones
ones-pack p zero = refl
ones-pack p (suc d) =
    let a : ℕ = pack (λ j. p (suc j)) d in
    ones_step (bit (p 0) + 2 * a)
    ∙ ap₂ (λ (x y : ℕ). x + ones y) (bit-mod (p 0) a) (bit-div (p 0) a)
    ∙ ap (λ (x : ℕ). bit (p 0) + x) (ones-pack (λ j. p (suc j)) d)

pub trailing-pack : (p : ℕ → Bool) (d : ℕ) → count_trailing_zeros d (pack p d) ≡ first p d
unfolding pack first count_trailing_zeros
trailing-pack p zero = refl
trailing-pack p (suc d) =
    let a : ℕ = pack (λ j. p (suc j)) d in
    ap₂ (λ (x y : ℕ). under x (count_trailing_zeros d y)) (bit-mod (p 0) a) (bit-div (p 0) a)
    ∙ ap (λ (x : ℕ). under (bit (p 0)) x) (trailing-pack (λ j. p (suc j)) d)
    ∙ go (p 0) (first (λ j. p (suc j)) d)
  where
    go : (b : Bool) (n : ℕ) → under (bit b) n ≡ pick b 0 (suc n)
    go true n = refl
    go false n = refl

pub many-ext : (p q : ℕ → Bool) (d : ℕ) → ((j : ℕ) → j < d → p j ≡ q j) → many p d ≡ many q d
unfolding many
many-ext p q zero h = refl
many-ext p q (suc d) h =
    ap₂ (λ (a : Bool) (n : ℕ). bit a + n) (h 0 (omega arith)) (many-ext (λ j. p (suc j)) (λ j. q (suc j)) d (λ j l. h (suc j) (omega arith)))

pub many-le : (p : ℕ → Bool) (d : ℕ) → many p d ≤ d
unfolding many
many-le p zero = omega arith
many-le p (suc d) = go (p 0) (many-le (λ j. p (suc j)) d)
  where
    go : (b : Bool) {n : ℕ} → n ≤ d → bit b + n ≤ suc d
    go true h = omega arith
    go false h = omega arith

pub many-add : (p : ℕ → Bool) (a b : ℕ) → many p (a + b) ≡ many p a + many (λ j. p (a + j)) b
unfolding many
many-add p zero b = ap (many p) (zero-add b) ∙ many-ext p (λ j. p (0 + j)) b (λ j l. ap p (sym (zero-add j))) ∙ sym (zero-add (many (λ j. p (0 + j)) b))
many-add p (suc a) b =
    ap (many p) (suc-add a b)
    ∙ ap (λ (n : ℕ). bit (p 0) + n) (many-add (λ j. p (suc j)) a b)
    ∙ sym (add_assoc (bit (p 0)) (many (λ j. p (suc j)) a) (many (λ j. p (suc (a + j))) b))
    ∙ ap (λ (n : ℕ). bit (p 0) + many (λ j. p (suc j)) a + n) (many-ext (λ j. p (suc (a + j))) (λ j. p (suc a + j)) b (λ j l. ap p (sym (suc-add a j))))

first-ext : (p q : ℕ → Bool) (d : ℕ) → ((j : ℕ) → j < d → p j ≡ q j) → first p d ≡ first q d
unfolding first
first-ext p q zero h = refl
first-ext p q (suc d) h =
    ap₂ (λ (a : Bool) (n : ℕ). pick a 0 (suc n)) (h 0 (omega arith)) (first-ext (λ j. p (suc j)) (λ j. q (suc j)) d (λ j l. h (suc j) (omega arith)))

pub first-le : (p : ℕ → Bool) (d : ℕ) → first p d ≤ d
unfolding first
first-le p zero = omega arith
first-le p (suc d) = go (p 0) (first-le (λ j. p (suc j)) d)
  where
    go : (b : Bool) {n : ℕ} → n ≤ d → pick b 0 (suc n) ≤ suc d
    go true h = omega arith
    go false h = omega arith

-- where none of the first a holds, the search goes on behind them
pub first_on : (p : ℕ → Bool) (a b : ℕ) → first p a ≡ a → first p (a + b) ≡ a + first (λ j. p (a + j)) b
unfolding first
first_on p zero b e = ap (first p) (zero-add b) ∙ first-ext p (λ j. p (0 + j)) b (λ j l. ap p (sym (zero-add j))) ∙ sym (zero-add (first (λ j. p (0 + j)) b))
first_on p (suc a) b e =
    ap (first p) (suc-add a b)
    ∙ go (first_on (λ j. p (suc j)) a b) (p 0) e
    ∙ ap (λ (n : ℕ). suc a + n) (first-ext (λ j. p (suc (a + j))) (λ j. p (suc a + j)) b (λ j l. ap p (sym (suc-add a j))))
  where
    go : (first (λ j. p (suc j)) a ≡ a → first (λ j. p (suc j)) (a + b) ≡ a + first (λ j. p (suc (a + j))) b)
        → (t : Bool) → pick t 0 (suc (first (λ j. p (suc j)) a)) ≡ suc a
        → pick t 0 (suc (first (λ j. p (suc j)) (a + b))) ≡ suc a + first (λ j. p (suc (a + j))) b
    go more true e = absurd (omega arith)
    go more false e = let h : first (λ j. p (suc j)) a ≡ a = omega arith in ap suc (more h) ∙ sym (suc-add a (first (λ j. p (suc (a + j))) b))

-- and where one does, it stays the first
pub first_found : (p : ℕ → Bool) (a b : ℕ) → first p a < a → first p (a + b) ≡ first p a
unfolding first
first_found p zero b h = absurd (omega arith)
first_found p (suc a) b h = ap (first p) (suc-add a b) ∙ go (first_found (λ j. p (suc j)) a b) (p 0) h
  where
    go : (first (λ j. p (suc j)) a < a → first (λ j. p (suc j)) (a + b) ≡ first (λ j. p (suc j)) a)
        → (t : Bool) → pick t 0 (suc (first (λ j. p (suc j)) a)) < suc a
        → pick t 0 (suc (first (λ j. p (suc j)) (a + b))) ≡ pick t 0 (suc (first (λ j. p (suc j)) a))
    go more true h = refl
    go more false h = let l : first (λ j. p (suc j)) a < a = omega arith in ap suc (more l)

-- the digits that are not set
pub pack-not : (p : ℕ → Bool) (d : ℕ) → (2 ^ d - 1) - pack p d ≡ pack (λ j. not (p j)) d
pack-not p d = let e : pack (λ j. not (p j)) d + pack p d ≡ pack (λ j. true) d = pack-less p (λ j. true) d (λ j h. refl) in omega (arith, pack-all d)

-- ---- counts of joined tests, and what the first is

pub many-or : (p q : ℕ → Bool) (d : ℕ) → ((j : ℕ) → p j ≡ true → q j ≡ false) → many (λ j. p j || q j) d ≡ many p d + many q d
unfolding many
many-or p q zero h = refl
many-or p q (suc d) h = go (p 0) (q 0) _ _ (h 0) (many-or (λ j. p (suc j)) (λ j. q (suc j)) d (λ j. h (suc j)))
  where
    go : (a b : Bool) (x y : ℕ) {z : ℕ} → (a ≡ true → b ≡ false) → z ≡ x + y → bit (a || b) + z ≡ bit a + x + (bit b + y)
    go true true x y f e = let w : ◌≡◌ {A = ℕ} 1 0 = ap bit (f refl) in omega arith
    go true false x y f e = omega arith
    go false true x y f e = omega arith
    go false false x y f e = omega arith

pub many-less : (p q : ℕ → Bool) (d : ℕ) → ((j : ℕ) → p j ≡ true → q j ≡ true) → many (λ j. q j && not (p j)) d + many p d ≡ many q d
unfolding many
many-less p q zero h = refl
many-less p q (suc d) h = go (p 0) (q 0) _ _ (h 0) (many-less (λ j. p (suc j)) (λ j. q (suc j)) d (λ j. h (suc j)))
  where
    go : (a b : Bool) (x y : ℕ) {z : ℕ} → (a ≡ true → b ≡ true) → x + y ≡ z → bit (b && not a) + x + (bit a + y) ≡ bit b + z
    go true true x y f e = omega arith
    go true false x y f e = let w : ◌≡◌ {A = ℕ} 0 1 = ap bit (f refl) in omega arith
    go false true x y f e = omega arith
    go false false x y f e = omega arith

pub many_below : (n d : ℕ) → many (λ j. ltb j n) d ≡ min n d
unfolding many
many_below n zero = omega arith
many_below zero (suc d) =
    ap₂ (λ (a : Bool) (n : ℕ). bit a + n) (le-ltb 0 0 (omega arith))
    (many-ext (λ j. ltb (suc j) 0) (λ j. ltb j 0) d (λ j l. le-ltb (suc j) 0 (omega arith) ∙ sym (le-ltb j 0 (omega arith))) ∙ many_below 0 d)
    ∙ omega arith
many_below (suc n) (suc d) =
    ap₂ (λ (a : Bool) (m : ℕ). bit a + m) (lt-ltb 0 (suc n) (omega arith))
    (many-ext (λ j. ltb (suc j) (suc n)) (λ j. ltb j n) d (λ j l. leb-suc-suc (suc j) n) ∙ many_below n d)
    ∙ omega arith

pub first_holds : (p : ℕ → Bool) (d : ℕ) → first p d < d → p (first p d) ≡ true
unfolding first
first_holds p zero h = absurd (omega arith)
first_holds p (suc d) h = go (first_holds (λ j. p (suc j)) d) (p 0) refl h
  where
    go : (first (λ j. p (suc j)) d < d → p (suc (first (λ j. p (suc j)) d)) ≡ true)
        → (b : Bool) → p 0 ≡ b → pick b 0 (suc (first (λ j. p (suc j)) d)) < suc d → p (pick b 0 (suc (first (λ j. p (suc j)) d))) ≡ true
    go more true q h = q
    go more false q h = more (omega arith)

pub first-none : (p : ℕ → Bool) (d j : ℕ) → j < first p d → p j ≡ false
unfolding first
first-none p zero j h = absurd (omega arith)
first-none p (suc d) j h = go (first-none (λ j. p (suc j)) d) (p 0) refl j h
  where
    go : ((j : ℕ) → j < first (λ j. p (suc j)) d → p (suc j) ≡ false)
        → (b : Bool) → p 0 ≡ b → (j : ℕ) → j < pick b 0 (suc (first (λ j. p (suc j)) d)) → p j ≡ false
    go more true q j h = absurd (omega arith)
    go more false q zero h = q
    go more false q (suc j) h = more j (omega arith)

-- ---- several words

-- word k of those behind the first
next_word : (p : ℕ → Bool) (at k : ℕ) → pack (λ j. p (at + 64 + k * 64 + j)) 64 ≡ pack (λ j. p (at + suc k * 64 + j)) 64
next_word p at k =
    pack-ext (λ j. p (at + 64 + k * 64 + j)) (λ j. p (at + suc k * 64 + j)) 64
    (λ j l. let e : at + 64 + k * 64 + j ≡ at + suc k * 64 + j = omega arith in ap p e)

pub packs-at : (p : ℕ → Bool) (at n k : ℕ) → k < n → get_or (packs p at n) k 0 ≡ pack (λ j. p (at + k * 64 + j)) 64
unfolding packs
packs-at p at zero k h = absurd (omega arith)
packs-at p at (suc n) zero h = pack-ext (λ j. p (at + j)) (λ j. p (at + 0 * 64 + j)) 64 (λ j l. let e : at + j ≡ at + 0 * 64 + j = omega arith in ap p e)
packs-at p at (suc n) (suc k) h = packs-at p (at + 64) n k (omega arith) ∙ next_word p at k

pub pack-false : (d : ℕ) → pack (λ j. false) d ≡ 0
unfolding pack
pack-false zero = refl
pack-false (suc d) = let e : pack (λ j. false) d ≡ 0 = pack-false d in omega arith

-- words by tests that agree on their digits
pub packs-ext-in : (p q : ℕ → Bool) (at n : ℕ) → ((c : ℕ) → at ≤ c → c < at + n * 64 → p c ≡ q c) → packs p at n ≡ packs q at n
unfolding packs
packs-ext-in p q at zero h = refl
packs-ext-in p q at (suc n) h =
    ap₂ (λ (w : ℕ) (ws : List ℕ). w ∷ ws)
    (pack-ext (λ j. p (at + j)) (λ j. q (at + j)) 64 (λ j l. h (at + j) (omega arith) (omega arith)))
    (packs-ext-in p q (at + 64) n (λ c a b. h c (omega arith) (omega arith)))

-- one word anew
pub packs-set : (p q : ℕ → Bool) (at n k : ℕ) → k < n → ((c : ℕ) → c < at + k * 64 → p c ≡ q c) → ((c : ℕ) → at + k * 64 + 64 ≤ c → p c ≡ q c)
    → set (packs p at n) k (pack (λ j. q (at + k * 64 + j)) 64) ≡ packs q at n
unfolding packs
packs-set p q at zero k h f g = absurd (omega arith)
packs-set p q at (suc n) zero h f g =
    ap₂ (λ (w : ℕ) (ws : List ℕ). w ∷ ws)
    (pack-ext (λ j. q (at + 0 * 64 + j)) (λ j. q (at + j)) 64 (λ j l. let e : at + 0 * 64 + j ≡ at + j = omega arith in ap q e))
    (packs-ext-in p q (at + 64) n (λ c a b. g c (omega arith)))
packs-set p q at (suc n) (suc k) h f g =
    ap₂ (λ (w : ℕ) (ws : List ℕ). w ∷ ws)
    (pack-ext (λ j. p (at + j)) (λ j. q (at + j)) 64 (λ j l. f (at + j) (omega arith)))
    (ap (set (packs p (at + 64) n) k) (sym (next_word q at k))
    ∙ packs-set p q (at + 64) n k (omega arith) (λ c l. f c (omega arith)) (λ c l. g c (omega arith)))
