-- The order of the entries: insertion keeps it where no two hold one channel. Assumes nothing.
use Prim.Native.Nat.{ℕ, ◌≤◌}
use mathlib.Core.Path.{◌≡◌, refl, sym, ◌∙◌, subst}
use mathlib.Core.Bool.{Bool, true, false, ◌&&◌}
use mathlib.Core.Logic.{◌⊎◌, inl, inr}
use mathlib.Core.List.{List, [], ◌∷◌}
use native.Mathlib.Omega.{arith}
use lib.Dec.{ltb, eqb}
use borrow.Author.Tests.{ltb-true, ltb-false, eqb-true, eqb-false}
use Rattle.format.specs.Format.{All}
use Rattle.format.proofs.Bools.{both, neither}
use Rattle.patching.specs.Entry.{Entry, universe, channel, Fields, fields, holds, before, insert}
use Rattle.patching.specs.Claims.{Pairs, Apart, Lower}
use Rattle.patching.proofs.Cases.{not-both, or-true-cases}
use Rattle.patching.proofs.Lists.{all_map}
use Rattle.patching.proofs.Entries.{insert-case, all_insert, Fits, first-held}

-- ---- which of two is listed first

abbrev pub Rises : Entry → Entry → Type 0
Rises e x = Lower (fields e) (fields x)

before-rises : (e x : Entry) → before e x ≡ true → Rises e x
before-rises e x t = go (or-true-cases (ltb (universe e) (universe x)) (eqb (universe e) (universe x) && ltb (channel e) (channel x)) t)
  where
    go : (ltb (universe e) (universe x) ≡ true) ⊎ ((eqb (universe e) (universe x) && ltb (channel e) (channel x)) ≡ true) → Rises e x
    go (inl p) = inl (ltb-true (universe e) (universe x) p)
    go (inr p) =
        let a = both (eqb (universe e) (universe x)) (ltb (channel e) (channel x)) p in
        inr (eqb-true (universe e) (universe x) a.0, ltb-true (channel e) (channel x) a.1)

-- entries that hold no channel in common do not begin at the same one
apart-starts : (e x : Entry) → Fits e → Fits x → Apart e x → universe e ≡ universe x → channel e ≡ channel x → ⊥
apart-starts e x f g a u c =
    a (universe e) (channel e) (first-held e f)
    (subst (λ (d : ℕ). holds (universe e) d x ≡ true) (sym c) (subst (λ (v : ℕ). holds v (channel x) x ≡ true) (sym u) (first-held x g)))

-- of two that do not begin at the same channel, one that is not before the other is behind it
behind-rises : (e x : Entry) → (universe e ≡ universe x → channel e ≡ channel x → ⊥) → before e x ≡ false → Rises x e
behind-rises e x n t =
    go (ltb (universe x) (universe e)) refl
    (neither (ltb (universe e) (universe x)) (eqb (universe e) (universe x) && ltb (channel e) (channel x)) t)
  where
    same-universe : universe e ≡ universe x → (eqb (universe e) (universe x) ≡ false) ⊎ (ltb (channel e) (channel x) ≡ false) → Rises x e
    same-universe u (inl p) = absurd (eqb-false (universe e) (universe x) p u)
    same-universe u (inr p) =
        let h : channel x ≤ channel e = ltb-false (channel e) (channel x) p in
        let d : channel e ≡ channel x → ⊥ = n u in
        inr (sym u, omega arith)

    go : (b : Bool) → ltb (universe x) (universe e) ≡ b
        → (ltb (universe e) (universe x) ≡ false) × ((eqb (universe e) (universe x) && ltb (channel e) (channel x)) ≡ false) → Rises x e
    go true p r = inl (ltb-true (universe x) (universe e) p)
    go false p (q, r) =
        let h : universe e ≤ universe x = ltb-false (universe x) (universe e) p in
        let k : universe x ≤ universe e = ltb-false (universe e) (universe x) q in
        same-universe (omega arith) (not-both (eqb (universe e) (universe x)) (ltb (channel e) (channel x)) r)

lower-through : (f g h : Fields) → Lower f g → Lower g h → Lower f h
lower-through f g h (inl a) (inl b) = inl (omega arith)
lower-through f g h (inl a) (inr b) = inl (omega arith)
lower-through f g h (inr a) (inl b) = inl (omega arith)
lower-through f g h (inr a) (inr b) = inr (a.0 ∙ b.0, omega arith)

-- ---- insertion

pub rising-insert : (e : Entry) (l : List Entry) → Fits e → All Fits l → All (Apart e) l → Pairs Rises l → Pairs Rises (insert e l)
unfolding insert
rising-insert e [] f fs a r = (tt, tt)
rising-insert e (x ∷ l) f (g, gs) (a, as') (r, rs) =
    insert-case (Pairs Rises) e x l
    (λ t. let h : Rises e x = before-rises e x t in ((h, all_map (λ y. lower-through (fields e) (fields x) (fields y) h) l r), (r, rs)))
    (λ t. (all_insert (Rises x) e l (behind-rises e x (apart-starts e x f g a) t) r, rising-insert e l f gs as' rs))
