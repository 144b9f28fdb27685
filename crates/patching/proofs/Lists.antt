-- Laws of lists: what filtering and mapping do to members, to their order and to their number. Assumes nothing.
use Prim.Native.Nat.{suc, ◌<◌, ◌≤◌}
use mathlib.Core.Path.{◌≡◌, refl, sym, ap, ◌∙◌}
use mathlib.Core.Bool.{Bool, true, false, not, ◌||◌, true≢false}
use mathlib.Core.Logic.{◌⊎◌, inl, inr}
use mathlib.Core.List.{List, [], ◌∷◌, ◌++◌, map}
use native.Mathlib.Omega.{arith}
use lib.ListN.{length}
use Rattle.format.specs.Format.{pick, All, In, here, there}
use Rattle.format.specs.Fault.{any}
use Rattle.format.proofs.Lists.{all_of_map}
use Rattle.patching.specs.Book.{filter}
use Rattle.patching.specs.Claims.{Pairs}

pub in-more : {A : Type 0} {x y : A} {k l : List A} → (In y k → In y l) → In y (x ∷ k) → In y (x ∷ l)
in-more f here = here
in-more f (there j) = there (f j)

pub in-length : {A : Type 0} {y : A} (l : List A) → In y l → 1 ≤ length l
in-length (x ∷ l) i = omega arith
in-length [] i = elim i [ ]

pub first_one : {A : Type 0} {y x : A} {l : List A} → In y (x ∷ l) → (y ≡ x) ⊎ In y l
first_one here = inl refl
first_one (there i) = inr i

pub in_map : {A B : Type 0} (g : A → B) {y : A} {l : List A} → In y l → In (g y) (map g l)
in_map g here = here
in_map g (there i) = there (in_map g i)

-- what is in a mapped list is the image of one of the list
pub of_map : {A B : Type 0} (g : A → B) (P : B → Type 0) (l : List A) → ((x : A) → In x l → P (g x)) → {y : B} → In y (map g l) → P y
of_map g P [] f i = absurd (omega (arith, in-length [] i))
of_map g P (x ∷ l) f here = f x here
of_map g P (x ∷ l) f (there i) = of_map g P l (λ z j. f z (there j)) i

pub pairs-mapped : {A B : Type 0} (g : A → B) (R : B → B → Type 0) (l : List A) → Pairs (λ x y. R (g x) (g y)) l → Pairs R (map g l)
pairs-mapped g R [] a = tt
pairs-mapped g R (x ∷ l) (a, more) = (all_of_map (R (g x)) (λ y. R (g x) (g y)) g (λ y t. t) l a, pairs-mapped g R l more)

module _ {A : Type 0} where
  pub all_map : {P Q : A → Type 0} → ((x : A) → P x → Q x) → (l : List A) → All P l → All Q l
  all_map f [] a = tt
  all_map f (x ∷ l) (a, more) = (f x a, all_map f l more)

  -- of each that is known to be in the list
  pub all_known : {P Q : A → Type 0} {l : List A} → ((x : A) → In x l → P x → Q x) → (k : List A) → ((x : A) → In x k → In x l) → All P k → All Q k
  all_known f [] h a = tt
  all_known f (x ∷ k) h (a, more) = (f x (h x here) a, all_known f k (λ y i. h y (there i)) more)

  -- what is kept passes the test
  module _ (p : A → Bool) where
    filter-case : (P : List A → Type 0) (x : A) (l : List A) → (p x ≡ true → P (x ∷ filter p l)) → (p x ≡ false → P (filter p l)) → P (filter p (x ∷ l))
    unfolding filter
    filter-case P x l f g = go (p x) f g
      where
        go : (b : Bool) → (b ≡ true → P (x ∷ filter p l)) → (b ≡ false → P (filter p l)) → P (pick b (x ∷ filter p l) (filter p l))
        go true f g = f refl
        go false f g = g refl

    pub all_filter : (P : A → Type 0) (l : List A) → All P l → All P (filter p l)
    unfolding filter
    all_filter P [] a = tt
    all_filter P (x ∷ l) (a, more) = filter-case (All P) x l (λ t. (a, all_filter P l more)) (λ t. all_filter P l more)

    pub all-passed : (l : List A) → All (λ x. p x ≡ true) (filter p l)
    unfolding filter
    all-passed [] = tt
    all-passed (x ∷ l) = filter-case (All (λ x. p x ≡ true)) x l (λ t. (t, all-passed l)) (λ t. all-passed l)

    pub pairs-filter : (R : A → A → Type 0) (l : List A) → Pairs R l → Pairs R (filter p l)
    unfolding filter
    pairs-filter R [] a = tt
    pairs-filter R (x ∷ l) (a, more) = filter-case (Pairs R) x l (λ t. (all_filter (R x) l a, pairs-filter R l more)) (λ t. pairs-filter R l more)

    pub in-filter : {y : A} (l : List A) → In y l → p y ≡ true → In y (filter p l)
    unfolding filter
    in-filter [] i t = absurd (omega (arith, in-length [] i))
    in-filter {y = y} (x ∷ l) here t = filter-case (In y) y l (λ s. here) (λ s. absurd (true≢false (sym t ∙ s)))
    in-filter {y = y} (x ∷ l) (there i) t = filter-case (In y) x l (λ s. there (in-filter l i t)) (λ s. in-filter l i t)

    pub filter-in : {y : A} (l : List A) → In y (filter p l) → In y l
    unfolding filter
    filter-in [] i = i
    filter-in {y = y} (x ∷ l) i = filter-case (λ k. In y k → In y (x ∷ l)) x l (λ t. in-more (filter-in l)) (λ t j. there (filter-in l j)) i

    pub filter-length : (l : List A) → length (filter p l) ≤ length l
    unfolding filter
    filter-length [] = omega arith
    filter-length (x ∷ l) =
        let h : length (filter p l) ≤ length l = filter-length l in
        filter-case (λ k. length k ≤ suc (length l)) x l (λ t. omega arith) (λ t. omega arith)

    pub none_of : (l : List A) → any p l ≡ false → All (λ x. p x ≡ false) l
    unfolding any
    none_of [] e = tt
    none_of (x ∷ l) e = go (none_of l) (p x) refl e
      where
        go : (any p l ≡ false → All (λ x. p x ≡ false) l) → (b : Bool) → p x ≡ b → (b || any p l) ≡ false → All (λ x. p x ≡ false) (x ∷ l)
        go more true q e = absurd (true≢false e)
        go more false q e = (q, more e)

  -- where one is dropped, they are fewer
  pub filter-less : (p : A → Bool) (l : List A) → any p l ≡ true → length (filter (λ x. not (p x)) l) < length l
  unfolding any filter
  filter-less p [] t = absurd (true≢false (sym t))
  filter-less p (x ∷ l) t = go (filter-less p l) (filter-length (λ x. not (p x)) l) (p x) t
    where
      go : (any p l ≡ true → length (filter (λ x. not (p x)) l) < length l) → length (filter (λ x. not (p x)) l) ≤ length l
          → (b : Bool) → (b || any p l) ≡ true → length (pick (not b) (x ∷ filter (λ x. not (p x)) l) (filter (λ x. not (p x)) l)) < suc (length l)
      go more h true t = omega arith
      go more h false t = let k : length (filter (λ x. not (p x)) l) < length l = more t in omega arith

  -- where none is dropped, the list stays
  pub filter-all : (p : A → Bool) (l : List A) → any p l ≡ false → filter (λ x. not (p x)) l ≡ l
  unfolding any filter
  filter-all p [] e = refl
  filter-all p (x ∷ l) e = go (filter-all p l) (p x) e
    where
      go : (any p l ≡ false → filter (λ x. not (p x)) l ≡ l) → (b : Bool) → (b || any p l) ≡ false
          → pick (not b) (x ∷ filter (λ x. not (p x)) l) (filter (λ x. not (p x)) l) ≡ x ∷ l
      go more true e = absurd (true≢false e)
      go more false e = ap (λ (k : List A). x ∷ k) (more e)

  pub filter-append : (p : A → Bool) (k l : List A) → filter p (k ++ l) ≡ filter p k ++ filter p l
  unfolding filter
  filter-append p [] l = refl
  filter-append p (x ∷ k) l = go (p x) (filter-append p k l)
    where
      go : (b : Bool) → filter p (k ++ l) ≡ filter p k ++ filter p l
          → pick b (x ∷ filter p (k ++ l)) (filter p (k ++ l)) ≡ pick b (x ∷ filter p k) (filter p k) ++ filter p l
      go true e = ap (λ (t : List A). x ∷ t) e
      go false e = e

  pub filter-one : (p : A → Bool) (x : A) (b : Bool) → p x ≡ b → (l : List A) → filter p (x ∷ l) ≡ pick b (x ∷ filter p l) (filter p l)
  unfolding filter
  filter-one p x b e l = ap (λ (t : Bool). pick t (x ∷ filter p l) (filter p l)) e
