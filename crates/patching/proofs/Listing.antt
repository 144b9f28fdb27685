-- The listing of a book: it is determined by what is in it, and it is what is answered entry by entry. Assumes nothing.
use Prim.Native.Nat.{ℕ, zero, suc, ◌≤◌}
use mathlib.Core.Path.{◌≡◌, refl, sym, ap, ap₂, ◌∙◌, subst}
use mathlib.Core.Logic.{◌⊎◌, inl, inr}
use mathlib.Core.List.{List, [], ◌∷◌, ◌++◌, map}
use mathlib.Core.Option.{none, some}
use native.Mathlib.Omega.{arith}
use lib.ListN.{length}
use Rattle.format.specs.Format.{All, In, here, there}
use Rattle.format.proofs.Lists.{all_in}
use Rattle.patching.specs.Entry.{Entry, Fields, fields, entry_of}
use Rattle.patching.specs.Book.{entry_at}
use Rattle.patching.specs.Claims as claims
use Rattle.patching.specs.Claims.{Lower, held_after}
use Rattle.patching.proofs.Fields.{entry_whole}
use Rattle.patching.proofs.Lists.{in-length, first_one}
use Rattle.patching.proofs.Theorem.{patch-book, book-rises}

-- ---- one rising listing of each set

never_both : (f g : Fields) → Lower f g → Lower g f → ⊥
never_both f g (inl a) (inl b) = omega arith
never_both f g (inl a) (inr b) = omega arith
never_both f g (inr a) (inl b) = omega arith
never_both f g (inr a) (inr b) = omega arith

-- of two listings with the same members each begins with what the other does
heads : {f g : Fields} {fs gs : List Fields} → (f ≡ g) ⊎ In f gs → (g ≡ f) ⊎ In g fs → All (Lower f) fs → All (Lower g) gs → f ≡ g
heads (inl e) j a b = e
heads (inr i) (inl e) a b = sym e
heads {f = f} {g = g} {fs = fs} {gs = gs} (inr i) (inr j) a b = absurd (never_both f g (all_in (Lower f) fs j a) (all_in (Lower g) gs i b))

-- what stands behind it in one stands behind it in the other
tails : {f g h : Fields} {gs : List Fields} → f ≡ g → Lower f h → (h ≡ g) ⊎ In h gs → In h gs
tails {f = f} {h = h} e a (inl q) =
    let b : Lower f f = subst (λ (t : Fields). Lower f t) (q ∙ sym e) a in
    absurd (never_both f f b b)
tails e a (inr i) = i

pub one-listing : claims.OneListing
one-listing [] [] r s m = refl
one-listing [] (g ∷ gs) r s m = absurd (omega (arith, in-length [] ((m g).1 here)))
one-listing (f ∷ fs) [] r s m = absurd (omega (arith, in-length [] ((m f).0 here)))
one-listing (f ∷ fs) (g ∷ gs) (a, r) (b, s) m =
    let e : f ≡ g = heads (first_one ((m f).0 here)) (first_one ((m g).1 here)) a b in
    ap₂ (λ (h : Fields) (t : List Fields). h ∷ t) e (one-listing fs gs r s (λ h. (
      λ i. tails e (all_in (Lower f) fs i a) (first_one ((m h).0 (there i))),
      λ i. tails (sym e) (all_in (Lower g) gs i b) (first_one ((m h).1 (there i))),
    )))

-- entries are those of their fields
all_whole : (l : List Entry) → map entry_of (map fields l) ≡ l
all_whole [] = refl
all_whole (e ∷ l) = ap₂ (λ (x : Entry) (k : List Entry). x ∷ k) (entry_whole e) (all_whole l)

pub same-listing : claims.SameListing
same-listing c d vs ws e g ms ns a b s =
    let p = patch-book c vs e ms a in
    let q = patch-book d ws g ns b in
    let k : List Entry = held_after ms c vs in
    let l : List Entry = held_after ns d ws in
    sym (all_whole k)
    ∙ ap (map entry_of)
    (one-listing (map fields k) (map fields l) (book-rises c vs e ms) (book-rises d ws g ns)
    (λ f. (λ i. (q.exactly f).1 ((s f).0 ((p.exactly f).0 i)), λ i. (p.exactly f).1 ((s f).1 ((q.exactly f).0 i)))))
    ∙ all_whole l

-- ---- entry by entry

there-at : (ahead behind : List Entry) (e : Entry) → entry_at (length ahead) (ahead ++ e ∷ behind) ≡ some (fields e)
there-at [] behind e = refl
there-at (x ∷ ahead) behind e = there-at ahead behind e

none-at : (l : List Entry) (k : ℕ) → length l ≤ k → entry_at k l ≡ none
none-at [] k h = refl
none-at (e ∷ l) zero h = absurd (omega arith)
none-at (e ∷ l) (suc k) h = none-at l k (omega arith)

pub listed-at : claims.ListedAt
listed-at = (there-at, none-at)
