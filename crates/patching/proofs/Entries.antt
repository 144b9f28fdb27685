-- Laws of the entries: what insertion does to members, pairs and number; the channels that two entries hold. Assumes nothing.
use Prim.Native.Nat.{ℕ, suc, ◌+◌, ◌<◌, ◌≤◌, min, max}
use mathlib.Core.Path.{◌≡◌, refl, sym, ap, ap₂, ◌∙◌}
use mathlib.Core.Bool.{Bool, true, false, ◌&&◌, true≢false}
use mathlib.Core.Logic.{◌⊎◌, inl, inr}
use mathlib.Core.List.{List, [], ◌∷◌}
use native.Mathlib.Omega.{arith}
use lib.ListN.{length}
use lib.Dec.{ltb, leb, eqb}
use borrow.Author.Tests.{leb-true, ltb-true, eqb-true, le-leb, lt-ltb, eq-eqb}
use Rattle.format.specs.Format.{pick, All, In, here, there}
use Rattle.format.proofs.Bools.{both}
use Rattle.patching.specs.Entry.{Entry, universe, channel, channel_count, end, spans, holds, shares, before, insert}
use Rattle.patching.specs.Claims.{Pairs, Apart}
use Rattle.patching.proofs.Lists.{first_one}

-- ---- insertion

pub insert-case : (P : List Entry → Type 0) (e x : Entry) (l : List Entry)
    → (before e x ≡ true → P (e ∷ x ∷ l)) → (before e x ≡ false → P (x ∷ insert e l)) → P (insert e (x ∷ l))
unfolding insert
insert-case P e x l f g = go (before e x) f g
  where
    go : (b : Bool) → (b ≡ true → P (e ∷ x ∷ l)) → (b ≡ false → P (x ∷ insert e l)) → P (pick b (e ∷ x ∷ l) (x ∷ insert e l))
    go true f g = f refl
    go false f g = g refl

pub all_insert : (P : Entry → Type 0) (e : Entry) (l : List Entry) → P e → All P l → All P (insert e l)
unfolding insert
all_insert P e [] p a = (p, tt)
all_insert P e (x ∷ l) p (a, more) = insert-case (All P) e x l (λ h. (p, (a, more))) (λ h. (a, all_insert P e l p more))

pub inserted : (e : Entry) (l : List Entry) → In e (insert e l)
unfolding insert
inserted e [] = here
inserted e (x ∷ l) = insert-case (In e) e x l (λ h. here) (λ h. there (inserted e l))

pub in_insert : (e : Entry) {y : Entry} {l : List Entry} → In y l → In y (insert e l)
in_insert e {y = y} (here {l = l}) = insert-case (In y) e y l (λ h. there here) (λ h. here)
in_insert e {y = y} (there {y = x} {l = l} i) = insert-case (In y) e x l (λ h. there (there i)) (λ h. there (in_insert e i))

one_more : {x y e : Entry} {k l : List Entry} → (In y k → (y ≡ e) ⊎ In y l) → In y (x ∷ k) → (y ≡ e) ⊎ In y (x ∷ l)
one_more f here = inr here
one_more {x = x} f (there i) = go (f i)
  where
    go : {y e : Entry} {l : List Entry} → (y ≡ e) ⊎ In y l → (y ≡ e) ⊎ In y (x ∷ l)
    go (inl q) = inl q
    go (inr j) = inr (there j)

pub insert-in : (e : Entry) {y : Entry} (l : List Entry) → In y (insert e l) → (y ≡ e) ⊎ In y l
unfolding insert
insert-in e [] i = first_one i
insert-in e {y = y} (x ∷ l) i = insert-case (λ k. In y k → (y ≡ e) ⊎ In y (x ∷ l)) e x l (λ h. first_one) (λ h. one_more (insert-in e l)) i

pub insert-length : (e : Entry) (l : List Entry) → length (insert e l) ≡ suc (length l)
unfolding insert
insert-length e [] = refl
insert-length e (x ∷ l) = insert-case (λ k. length k ≡ suc (suc (length l))) e x l (λ h. refl) (λ h. ap suc (insert-length e l))

pub pairs-insert : (R : Entry → Entry → Type 0) → ((x y : Entry) → R x y → R y x) → (e : Entry) (l : List Entry)
    → All (R e) l → Pairs R l → Pairs R (insert e l)
unfolding insert
pairs-insert R turn e [] b a = (tt, tt)
pairs-insert R turn e (x ∷ l) (b, bs) (a, more) =
    insert-case (Pairs R) e x l (λ t. ((b, bs), (a, more))) (λ t. (all_insert (R x) e l (turn e x b) a, pairs-insert R turn e l bs more))

-- ---- the channels that an entry holds

pub record Fits (e : Entry) : Type 0 where
  pub some-channel : 1 ≤ channel_count e
  pub inside : channel e + channel_count e ≤ 512

-- what holding a channel says
pub record Has (u c : ℕ) (e : Entry) : Type 0 where
  pub there-in : universe e ≡ u
  pub from : channel e ≤ c
  pub to : c < end e

pub has : (u c : ℕ) (e : Entry) → holds u c e ≡ true → Has u c e
has u c e t =
    let a = both (eqb (universe e) u) (spans e c) t in
    let b = both (leb (channel e) c) (ltb c (end e)) a.1 in
    record { there-in = eqb-true (universe e) u a.0; from = leb-true (channel e) c b.0; to = ltb-true c (end e) b.1 }

-- its first channel is its own
pub first-held : (e : Entry) → Fits e → holds (universe e) (channel e) e ≡ true
first-held e f =
    let h : channel e < end e = omega (arith, f.some-channel) in
    let k : channel e ≤ channel e = omega arith in
    ap₂ (λ (a b : Bool). a && b) (eq-eqb (universe e) (universe e) refl)
    (ap₂ (λ (a b : Bool). a && b) (le-leb (channel e) (channel e) k) (lt-ltb (channel e) (end e) h))

-- where the test finds no shared channel, none is held by both
pub shares-apart : (e x : Entry) → shares e x ≡ false → Apart e x
shares-apart e x s u c p q =
    let i : Has u c e = has u c e p in
    let j : Has u c x = has u c x q in
    let h : max (channel e) (channel x) < min (end e) (end x) = omega (arith, i.from, i.to, j.from, j.to) in
    true≢false (sym (ap₂ (λ (a b : Bool). a && b) (eq-eqb (universe e) (universe x) (i.there-in ∙ sym j.there-in))
    (lt-ltb (max (channel e) (channel x)) (min (end e) (end x)) h)) ∙ s)

pub apart-turned : (x y : Entry) → Apart x y → Apart y x
apart-turned x y a u c p q = a u c q p
