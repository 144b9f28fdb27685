-- A kind is known by its index, and a test computed over the whole table of kinds holds of each kind.
use Prim.Native.Nat.{ℕ, zero, suc}
use mathlib.Core.Path.{◌≡◌, refl, sym, ap, subst, ◌∙◌}
use mathlib.Core.Bool.{Bool, true, false, ◌&&◌, false≢true}
use mathlib.Core.List.{List, [], ◌∷◌}
use mathlib.Core.Option.{Option, none, some}
use lib.ListN.{get_or}
use borrow.Author.Tests.{eqb-true}
use Rattle.format.specs.Format.{All}
use Rattle.format.proofs.Bools.{both}
use Rattle.protocol.specs.Kind.{Kind, index, same_kind, kinds}
use Rattle.protocol.specs.Kind as kind

-- ---- a kind is known by its index

kind-at : (k : Kind) → get_or kinds (index k) kind.EnterShow ≡ k
kind-at kind.EnterShow = refl
kind-at kind.FixtureList = refl
kind-at kind.FixtureRemove = refl
kind-at kind.LaserFeedControl = refl
kind-at kind.Capa = refl
kind-at kind.UNam = refl
kind-at kind.ChBk = refl
kind-at kind.ChLs = refl
kind-at kind.Sxus = refl
kind-at kind.Ptch = refl
kind-at kind.UPtc = refl
kind-at kind.SPtc = refl
kind-at kind.Sele = refl
kind-at kind.DeSe = refl
kind-at kind.SFra = refl
kind-at kind.Fram = refl
kind-at kind.PNam = refl
kind-at kind.PLoc = refl
kind-at kind.LaserFeedList = refl
kind-at kind.LaserFeedFrame = refl

pub same_kind_lem : (j k : Kind) → same_kind j k ≡ true → j ≡ k
same_kind_lem j k e = sym (kind-at j) ∙ ap (λ (n : ℕ). get_or kinds n kind.EnterShow) (eqb-true (index j) (index k) e) ∙ kind-at k

-- ---- what a computed test shows of each kind

-- every element passes the test
unfoldable pub every : {A : Type 0} → (A → Bool) → List A → Bool
every test [] = true
every test (x ∷ xs) = test x && every test xs

pub every-all : {A : Type 0} (test : A → Bool) (xs : List A) → every test xs ≡ true → All (λ x. test x ≡ true) xs
unfolding every
every-all test [] e = tt
every-all test (x ∷ xs) e = let b = both (test x) (every test xs) e in (b.0, every-all test xs b.1)

-- what holds of every element holds of the one at a place, and of the default past the end
all-at : {A : Type 0} (P : A → Type 0) (xs : List A) {d : A} → All P xs → P d → (n : ℕ) → P (get_or xs n d)
all-at P [] h p n = p
all-at P (x ∷ xs) h p zero = h.0
all-at P (x ∷ xs) h p (suc n) = all-at P xs h.1 p n

each-kind : (P : Kind → Type 0) → All P kinds → (k : Kind) → P k
each-kind P h k = subst P (kind-at k) (all-at P kinds h h.0 (index k))

pub every-kind : (test : Kind → Bool) → every test kinds ≡ true → (k : Kind) → test k ≡ true
every-kind test e = each-kind (λ k. test k ≡ true) (every-all test kinds e)

-- ---- lookups

-- the kind was found
abbrev is_found : Kind → Option Kind → Bool
is_found k none = false
is_found k (some j) = same_kind j k

-- a lookup that finds every kind of the table, by computation, finds each kind
pub found-kind : (f : Kind → Option Kind) → every (λ k. is_found k (f k)) kinds ≡ true → (k : Kind) → f k ≡ some k
found-kind f e k = on (f k) (every-kind (λ j. is_found j (f j)) e k)
  where
    on : (x : Option Kind) → is_found k x ≡ true → x ≡ some k
    on none h = absurd (false≢true h)
    on (some j) h = ap some (same_kind_lem j k h)
