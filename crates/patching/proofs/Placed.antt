-- Entries by the place of their channels, the universes in a row: of a book each ends where the next begins or before. Assumes nothing.
use Prim.Native.Nat.{ℕ, ◌+◌, ◌*◌, ◌<◌, ◌≤◌, min, max}
use mathlib.Core.Path.{◌≡◌, refl, sym}
use mathlib.Core.Bool.{Bool, true, false, not, ◌&&◌, true≢false}
use mathlib.Core.Logic.{◌⊎◌, inl, inr}
use mathlib.Core.List.{List, [], ◌∷◌}
use native.Mathlib.Omega.{arith}
use lib.Dec.{ltb, eqb}
use borrow.Author.Tests.{ltb-true, ltb-false, eqb-true, eqb-false}
use Rattle.format.specs.Format.{All}
use Rattle.format.specs.Fault.{any}
use Rattle.format.proofs.Faults.{all_both}
use Rattle.format.proofs.Bools.{neither}
use Rattle.patching.specs.Entry.{Entry, universe, channel, channel_count, insert, before, same, shares, end}
use Rattle.patching.specs.Book.{filter, clashes, others}
use Rattle.patching.specs.Claims.{Pairs, Apart}
use Rattle.patching.proofs.Cases.{and-rest, not-both, or-true-cases}
use Rattle.patching.proofs.Lists.{all_map, all_filter, all-passed, pairs-filter, none_of}
use Rattle.patching.proofs.Entries.{insert-case, all_insert, Fits, Has, has}

-- the universes' channels in a row, 512 for each: where an entry begins, and where it has ended
abbrev pub address : Entry → ℕ
address e = universe e * 512 + channel e

abbrev pub Clear : Entry → Entry → Type 0
Clear x y = address x + channel_count x ≤ address y

pub record Good (l : List Entry) : Type 0 where
  pub fit : All Fits l
  pub clear : Pairs Clear l

pub before-true : (e x : Entry) → Fits e → before e x ≡ true → address e < address x
before-true e x f t = go (or-true-cases (ltb (universe e) (universe x)) (eqb (universe e) (universe x) && ltb (channel e) (channel x)) t)
  where
    both : (a : Bool) → eqb (universe e) (universe x) ≡ a → (b : Bool) → ltb (channel e) (channel x) ≡ b → (a && b) ≡ true → address e < address x
    both true p true q t =
        let u : universe e ≡ universe x = eqb-true (universe e) (universe x) p in
        let h : channel e < channel x = ltb-true (channel e) (channel x) q in
        omega arith
    both true p false q t = absurd (true≢false (sym t))
    both false p b q t = absurd (true≢false (sym t))

    go : (ltb (universe e) (universe x) ≡ true) ⊎ ((eqb (universe e) (universe x) && ltb (channel e) (channel x)) ≡ true) → address e < address x
    go (inl p) =
        let u : universe e < universe x = ltb-true (universe e) (universe x) p in
        let i : channel e + channel_count e ≤ 512 = f.inside in
        let s : 1 ≤ channel_count e = f.some-channel in
        omega arith
    go (inr q) = both (eqb (universe e) (universe x)) refl (ltb (channel e) (channel x)) refl q

pub before-false : (e x : Entry) → Fits x → before e x ≡ false → address x ≤ address e
before-false e x f t = go (neither (ltb (universe e) (universe x)) (eqb (universe e) (universe x) && ltb (channel e) (channel x)) t)
  where
    rest : universe x ≤ universe e → (eqb (universe e) (universe x) ≡ false) ⊎ (ltb (channel e) (channel x) ≡ false) → address x ≤ address e
    rest u (inl p) =
        let n : universe e ≡ universe x → ⊥ = eqb-false (universe e) (universe x) p in
        let v : universe x < universe e = omega arith in
        let i : channel x + channel_count x ≤ 512 = f.inside in
        omega arith
    rest u (inr q) = let h : channel x ≤ channel e = ltb-false (channel e) (channel x) q in omega arith

    go : (ltb (universe e) (universe x) ≡ false) × ((eqb (universe e) (universe x) && ltb (channel e) (channel x)) ≡ false) → address x ≤ address e
    go (p, q) = rest (ltb-false (universe e) (universe x) p) (not-both (eqb (universe e) (universe x)) (ltb (channel e) (channel x)) q)

-- e may stand somewhere beside x
abbrev pub Beside : Entry → Entry → Type 0
Beside e x = Clear e x ⊎ Clear x e

-- entries that share no channel stand beside each other
pub beside : (e x : Entry) → Fits e → Fits x → shares e x ≡ false → Beside e x
beside e x f g s = go (eqb (universe e) (universe x)) refl (ltb (max (channel e) (channel x)) (min (end e) (end x))) refl s
  where
    apart-universes : (b : Bool) → ltb (universe e) (universe x) ≡ b → (universe e ≡ universe x → ⊥) → Beside e x
    apart-universes true p n =
        let u : universe e < universe x = ltb-true (universe e) (universe x) p in
        let i : channel e + channel_count e ≤ 512 = f.inside in
        let h : Clear e x = omega arith in
        inl h
    apart-universes false p n =
        let v : universe x ≤ universe e = ltb-false (universe e) (universe x) p in
        let u : universe x < universe e = omega arith in
        let i : channel x + channel_count x ≤ 512 = g.inside in
        let h : Clear x e = omega arith in
        inr h

    -- in one universe one ends before the other starts
    one-universe : universe e ≡ universe x → min (end e) (end x) ≤ max (channel e) (channel x) → (b : Bool) → ltb (channel x) (end e) ≡ b → Beside e x
    one-universe u h true p =
        let k : channel x < end e = ltb-true (channel x) (end e) p in
        let m : 1 ≤ channel_count e = f.some-channel in
        let n : 1 ≤ channel_count x = g.some-channel in
        let c : Clear x e = omega arith in
        inr c
    one-universe u h false p =
        let k : end e ≤ channel x = ltb-false (channel x) (end e) p in
        let c : Clear e x = omega arith in
        inl c

    go : (a : Bool) → eqb (universe e) (universe x) ≡ a → (b : Bool) → ltb (max (channel e) (channel x)) (min (end e) (end x)) ≡ b
        → (a && b) ≡ false → Beside e x
    go false p b q s = apart-universes (ltb (universe e) (universe x)) refl (eqb-false (universe e) (universe x) p)
    go true p true q s = absurd (true≢false s)
    go true p false q s =
        one-universe (eqb-true (universe e) (universe x) p) (ltb-false (max (channel e) (channel x)) (min (end e) (end x)) q) (ltb (channel x) (end e)) refl

ahead_of : (e x : Entry) → Beside e x → address e < address x → Clear e x
ahead_of e x (inl p) h = p
ahead_of e x (inr p) h = absurd (omega arith)

behind : (e x : Entry) → Fits e → Beside e x → address x ≤ address e → Clear x e
behind e x f (inl p) h = let k : 1 ≤ channel_count e = f.some-channel in absurd (omega arith)
behind e x f (inr p) h = p

-- an entry before x is before all behind x
further : (e x : Entry) → address e < address x → (y : Entry) → Clear x y → Beside e y → Clear e y
further e x h y a (inl p) = p
further e x h y a (inr p) = absurd (omega arith)

pub pairs-insert : {e : Entry} (l : List Entry) → Fits e → All Fits l → All (Beside e) l → Pairs Clear l → Pairs Clear (insert e l)
unfolding insert
pairs-insert [] fe f b a = (tt, tt)
pairs-insert {e = e} (x ∷ l) fe (fx, fs) (b, bs) (a, more) =
    insert-case (Pairs Clear) e x l
    (λ t. let h : address e < address x = before-true e x fe t in ((ahead_of e x b h, all_both (further e x h) l a bs), (a, more)))
    (λ t. let h : address x ≤ address e = before-false e x fx t in (all_insert (Clear x) e l (behind e x fe b h) a, pairs-insert l fe fs bs more))

good-filter : (p : Entry → Bool) (l : List Entry) → Good l → Good (filter p l)
good-filter p l g = record { fit = all_filter p Fits l g.fit; clear = pairs-filter p Clear l g.clear }

stands-beside : (e : Entry) (l : List Entry) → Fits e → Good l → any (clashes e) l ≡ false → All (Beside e) (others e l)
stands-beside e l f g s =
    let p : Entry → Bool = λ x. not (same e x) in
    all_both (λ x fx t. beside e x f fx t) (others e l) (all_filter p Fits l g.fit)
    (all_both (λ x t c. and-rest (not (same e x)) (shares e x) t c) (others e l) (all-passed p l)
    (all_filter p (λ x. clashes e x ≡ false) l (none_of (clashes e) l s)))

-- a patch that does not clash
pub good-patch : (e : Entry) (l : List Entry) → Fits e → Good l → any (clashes e) l ≡ false → Good (insert e (others e l))
good-patch e l f g s =
    let o : Good (others e l) = good-filter (λ x. not (same e x)) l g in record {
      fit = all_insert Fits e (others e l) f o.fit;
      clear = pairs-insert (others e l) f o.fit (stands-beside e l f g s) o.clear;
    }

-- ---- so no channel is held by two

pairs-with : {A : Type 0} {R S : A → A → Type 0} → ((x y : A) → R x y → S x y) → (l : List A) → Pairs R l → Pairs S l
pairs-with f [] a = tt
pairs-with f (x ∷ l) (a, more) = (all_map (f x) l a, pairs-with f l more)

clear_apart : (x y : Entry) → Clear x y → Apart x y
clear_apart x y a u c p q =
    let h : address x + channel_count x ≤ address y = a in
    let i : Has u c x = has u c x p in
    let j : Has u c y = has u c y q in
    omega (arith, i.there-in, j.there-in)

pub good-apart : (l : List Entry) → Good l → Pairs Apart l
good-apart l g = pairs-with clear_apart l g.clear
