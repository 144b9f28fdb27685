-- A layer is found by its cookie, a kind by its layer and content type, and nothing else is found.
use Prim.Native.Nat.{ℕ}
use mathlib.Core.Path.{◌≡◌, refl, sym, ap, ◌∙◌}
use mathlib.Core.Bool.{Bool, true, false, ◌&&◌, false≢true}
use mathlib.Core.List.{List, [], ◌∷◌}
use mathlib.Core.Option.{Option, none, some, none-ne-some}
use lib.Dec.{eqb}
use borrow.Author.Tests.{eqb-true, eq-eqb, ne_eqb}
use Rattle.format.specs.Format.{pick, In, here, there}
use Rattle.format.specs.Fault.{any}
use Rattle.format.specs.Refusals.{is_one_of}
use Rattle.format.proofs.Bools.{both}
use Rattle.format.proofs.Lists.{all_in}
use Rattle.protocol.specs.Layer.{Layer, PINF, SDMX, FPTC, FSEL, FINF, CAEX, cookie, layers, find, layer_in, layer_of}
use Rattle.protocol.specs.Kind.{Kind, layer, content_type, kinds, kind_of}
use Rattle.protocol.specs.Packet.{NoLayer, NoKind}
use Rattle.protocol.specs.Claims.{EveryLayer, AnyOrder, WalkLookup, LookupsAgree}
use Rattle.protocol.proofs.Every.{every, every-all, found-kind}

-- ---- what is found passed the test

-- P holds of what was found, if anything was
pub data Finds {A : Type 0} (P : A → Type 0) : Option A → Type 0 where
  nothing : Finds P none
  found : {x : A} → P x → Finds P (some x)

pub found-is : {A : Type 0} {P : A → Type 0} {x : A} → Finds P (some x) → P x
found-is (found h) = h

finds-none : {A : Type 0} {P : A → Type 0} {r : Option A} → ((x : A) → P x → ⊥) → Finds P r → r ≡ none
finds-none h nothing = refl
finds-none h (found {x} p) = absurd (h x p)

-- one of the list, which passes the test
abbrev Passes : {A : Type 0} → (A → Bool) → List A → A → Type 0
Passes test xs x = In x xs × (test x ≡ true)

find-finds : {A : Type 0} (test : A → Bool) (xs : List A) → Finds (Passes test xs) (find test xs)
unfolding find
find-finds test [] = nothing
find-finds {A} test (x ∷ xs) = by (test x) refl (find-finds test xs)
  where
    more : {r : Option A} → Finds (Passes test xs) r → Finds (Passes test (x ∷ xs)) r
    more nothing = nothing
    more (found (i, t)) = found (there i, t)

    by : (b : Bool) → test x ≡ b → Finds (Passes test xs) (find test xs) → Finds (Passes test (x ∷ xs)) (pick b (some x) (find test xs))
    by true e k = found (here, e)
    by false e k = more k

-- ---- where one element at the most passes the test, whatever the order

module _ {A : Type 0} (test : A → Bool) (one : (x y : A) → test x ≡ true → test y ≡ true → x ≡ y) where
  -- it is found
  find-in : {x : A} {xs : List A} → In x xs → test x ≡ true → find test xs ≡ some x
  unfolding find
  find-in (here {l = xs}) t = rw t
  find-in {x = x} (there {y = y} {l = xs} i) t = by (test y) refl (find-in i t)
    where
      by : (b : Bool) → test y ≡ b → find test xs ≡ some x → pick b (some y) (find test xs) ≡ some x
      by true e k = ap some (one y x e t)
      by false e k = k

  -- lists with the same elements agree
  find-agrees : (xs ys : List A) → ((x : A) → (In x xs → In x ys) × (In x ys → In x xs)) → find test xs ≡ find test ys
  find-agrees xs ys same = by (find-finds test ys) refl
    where
      by : {r : Option A} → Finds (Passes test ys) r → find test ys ≡ r → find test xs ≡ r
      by (found {x = y} (i, t)) e = find-in ((same y).1 i) t
      by nothing e = finds-none (λ x h. none-ne-some x (sym e ∙ find-in ((same x).0 h.0) h.1)) (find-finds test xs)

-- ---- layers

abbrev has_cookie : ℕ → Layer → Bool
has_cookie c l = eqb (cookie l) c

-- by computation, whatever the order
pub layer-found : (l : Layer) → layer_of (cookie l) ≡ some l
unfolding layer_of find
layer-found PINF = refl
layer-found SDMX = refl
layer-found FPTC = refl
layer-found FSEL = refl
layer-found FINF = refl
layer-found CAEX = refl

abbrev layer_or : Layer → Option Layer → Layer
layer_or d none = d
layer_or d (some l) = l

pub same-layer : (a b : Layer) → eqb (cookie a) (cookie b) ≡ true → a ≡ b
same-layer a b e =
    ap (layer_or PINF) (sym (layer-found a)) ∙ ap (λ (c : ℕ). layer_or PINF (layer_of c)) (eqb-true (cookie a) (cookie b) e) ∙ ap (layer_or PINF) (layer-found b)

-- a cookie is one layer's at the most
one-layer : (c : ℕ) (a b : Layer) → has_cookie c a ≡ true → has_cookie c b ≡ true → a ≡ b
one-layer c a b p q = same-layer a b (rw (← eqb-true (cookie b) c q) at p)

pub any_order : AnyOrder
any_order order all = (λ l. find-in (has_cookie (cookie l)) (one-layer (cookie l)) (all l) (eq-eqb (cookie l) (cookie l) refl), no_other)
  where
    no_other : (c : ℕ) → NoLayer c → layer_in order c ≡ none
    no_other c h = finds-none (λ l f. h l (sym (eqb-true (cookie l) c f.1))) (find-finds (has_cookie c) order)

pub lookups-agree : LookupsAgree
lookups-agree xs ys same c = find-agrees (has_cookie c) (one-layer c) xs ys same

-- what layer_of found
layer-passed : (c : ℕ) (l : Layer) → layer_of c ≡ some l → Passes (has_cookie c) layers l
unfolding layer_of
layer-passed c l e =
    let f : Finds (Passes (has_cookie c) layers) (some l) = rw e at (find-finds (has_cookie c) layers) in
    found-is f

every-layer : EveryLayer layers
every-layer l = (layer-passed (cookie l) l (layer-found l)).0

pub walk-lookup : WalkLookup
unfolding layer_of
walk-lookup = any_order layers every-layer

pub no-layer : (c : ℕ) → NoLayer c → layer_of c ≡ none
no-layer = walk-lookup.1

-- a number unlike six numbers, among which is every cookie, is no layer's
pub none_of : {c u v w x y z : ℕ} → (c ≡ u → ⊥) → (c ≡ v → ⊥) → (c ≡ w → ⊥) → (c ≡ x → ⊥) → (c ≡ y → ⊥) → (c ≡ z → ⊥)
    → every (λ l. is_one_of (u ∷ v ∷ w ∷ x ∷ y ∷ z ∷ []) (cookie l)) layers ≡ true → layer_of c ≡ none
unfolding any
none_of {c} {u} {v} {w} {x} {y} {z} not-u not-v not-w not-x not-y not-z all = no-layer c unlike
  where
    has : ℕ → Bool
    has n = is_one_of (u ∷ v ∷ w ∷ x ∷ y ∷ z ∷ []) n

    unlike : NoLayer c
    unlike l e =
        let h : has c ≡ true = rw e (all_in (λ m. has (cookie m) ≡ true) layers (every-layer l) (every-all (λ m. has (cookie m)) layers all)) in
        false≢true
        (rw (ne_eqb c u not-u, ne_eqb c v not-v, ne_eqb c w not-w, ne_eqb c x not-x, ne_eqb c y not-y, ne_eqb c z not-z) at h)

pub layer-known : (c : ℕ) (l : Layer) → layer_of c ≡ some l → cookie l ≡ c
layer-known c l e = eqb-true (cookie l) c (layer-passed c l e).1

-- ---- kinds

abbrev is_kind : Layer → ℕ → Kind → Bool
is_kind l type k = eqb (cookie (layer k)) (cookie l) && eqb (content_type k) type

pub kind-found : (k : Kind) → kind_of (layer k) (content_type k) ≡ some k
unfolding every kind_of find
kind-found k = found-kind (λ k. kind_of (layer k) (content_type k)) refl k

kind-finds : (l : Layer) (type : ℕ) → Finds (Passes (is_kind l type) kinds) (kind_of l type)
unfolding kind_of
kind-finds l type = find-finds (is_kind l type) kinds

-- what it found
pub record Known (l : Layer) (type : ℕ) (k : Kind) : Type 0 where
  pub layer-is : layer k ≡ l
  pub type-is : content_type k ≡ type

known : (l : Layer) (type : ℕ) (k : Kind) → is_kind l type k ≡ true → Known l type k
known l type k h =
    let b = both (eqb (cookie (layer k)) (cookie l)) (eqb (content_type k) type) h in
    record { layer-is = same-layer (layer k) l b.0; type-is = eqb-true (content_type k) type b.1 }

pub kind-known : (l : Layer) (type : ℕ) (k : Kind) → kind_of l type ≡ some k → Known l type k
kind-known l type k e =
    let f : Finds (Passes (is_kind l type) kinds) (some k) = rw e at (kind-finds l type) in
    known l type k (found-is f).1

pub no_kind : (l : Layer) (type : ℕ) → NoKind l type → kind_of l type ≡ none
no_kind l type h = finds-none (λ k f. let n = known l type k f.1 in h k n.layer-is (sym n.type-is)) (kind-finds l type)
