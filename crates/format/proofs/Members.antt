-- Members of a list of numbers, by a test; and of what `keep` makes of a list, by the elements that it is made of.
use Prim.Native.Nat.{ℕ}
use mathlib.Core.Path.{◌≡◌, refl, ap, ◌∙◌}
use mathlib.Core.Bool.{Bool, true, false, ◌||◌, false≢true}
use mathlib.Core.List.{List, [], ◌∷◌, ◌++◌, map}
use mathlib.Core.Option.{Option, none, some}
use borrow.Author.Tests.{eqb-true}
use lib.Dec.{eqb}
use Rattle.format.specs.Format.{In, here, there}
use Rattle.format.specs.Fault.{any}
use Rattle.format.specs.Refusals.{is_one_of}
use Rattle.format.specs.Walk.{keep}
use Rattle.format.proofs.Lists.{all_in}
use Rattle.format.proofs.Refusal.{each-one-of}

-- ---- numbers

pub one_of : (l : List ℕ) (n : ℕ) → is_one_of l n ≡ true → In n l
unfolding any
one_of [] n h = absurd (false≢true h)
one_of (x ∷ l) n h = go (eqb n x) refl h (one_of l n)
  where
    go : (b : Bool) → eqb n x ≡ b → (b || is_one_of l n) ≡ true → (is_one_of l n ≡ true → In n l) → In n (x ∷ l)
    go true e h more = rw (eqb-true n x e) here
    go false e h more = there (more h)

pub in-one-of : (l : List ℕ) (n : ℕ) → In n l → is_one_of l n ≡ true
in-one-of l n i = all_in (λ m. is_one_of l m ≡ true) l i (each-one-of l)

-- ---- what is kept

module _ {A B : Type 0} (k : A → Option B) where
  -- an element of a list of which y is kept
  pub record Kept (xs : List A) (y : B) : Type 0 where
    pub element : A
    pub among : In element xs
    pub gives : k element ≡ some y

  pub keep-none : (x : A) (xs : List A) → k x ≡ none → keep k (x ∷ xs) ≡ keep k xs
  unfolding keep
  keep-none x xs e = rw e refl

  pub keep_some : (x : A) (xs : List A) {y : B} → k x ≡ some y → keep k (x ∷ xs) ≡ y ∷ keep k xs
  unfolding keep
  keep_some x xs e = rw e refl

  pub kept_of : (xs : List A) (y : B) → In y (keep k xs) → Kept xs y
  unfolding keep
  kept_of [] y i = elim i [ ]
  kept_of (x ∷ xs) y i = on (k x) refl (kept_of xs y)
    where
      further : Kept xs y → Kept (x ∷ xs) y
      further w = record { element = w.element; among = there w.among; gives = w.gives }

      first-or : (z : B) → k x ≡ some z → (In y (keep k xs) → Kept xs y) → In y (z ∷ keep k xs) → Kept (x ∷ xs) y
      first-or z e more here = record { element = x; among = here; gives = e }
      first-or z e more (there i) = further (more i)

      on : (o : Option B) → k x ≡ o → (In y (keep k xs) → Kept xs y) → Kept (x ∷ xs) y
      on none e more = further (more (rw (keep-none x xs e) at i))
      on (some z) e more = first-or z e more (rw (keep_some x xs e) at i)

  pub keeps : {x : A} {y : B} (xs : List A) → In x xs → k x ≡ some y → In y (keep k xs)
  keeps [] i e = elim i [ ]
  keeps {x} (z ∷ xs) here e = rw (keep_some x xs e) here
  keeps {y = y} (z ∷ xs) (there i) e = on (k z) refl (keeps xs i e)
    where
      on : (o : Option B) → k z ≡ o → In y (keep k xs) → In y (keep k (z ∷ xs))
      on none h more = rw (keep-none z xs h) more
      on (some w) h more = rw (keep_some z xs h) (there more)

-- what is kept of a mapped list, where what is made of an element goes by what it was
pub keep-map : {A B C : Type 0} (k : B → Option C) (j : A → Option C) (f : A → B) → ((x : A) → k (f x) ≡ j x) → (xs : List A)
    → keep k (map f xs) ≡ keep j xs
unfolding keep
keep-map k j f h [] = refl
keep-map k j f h (x ∷ xs) = rw (h x, keep-map k j f h xs) refl

pub keep_all : {A B : Type 0} (f : A → B) (xs : List A) → keep (λ x. some (f x)) xs ≡ map f xs
unfolding keep
keep_all f [] = refl
keep_all f (x ∷ xs) = rw (keep_all f xs) refl

pub keep_append : {A B : Type 0} (k : A → Option B) (xs ys : List A) → keep k (xs ++ ys) ≡ keep k xs ++ keep k ys
unfolding keep
keep_append k [] ys = refl
keep_append {A} {B} k (x ∷ xs) ys = by (k x) refl (keep_append k xs ys)
  where
    by : (o : Option B) → k x ≡ o → keep k (xs ++ ys) ≡ keep k xs ++ keep k ys → keep k (x ∷ (xs ++ ys)) ≡ keep k (x ∷ xs) ++ keep k ys
    by none e more = keep-none k x (xs ++ ys) e ∙ more ∙ rw (keep-none k x xs e) refl
    by (some y) e more = keep_some k x (xs ++ ys) e ∙ ap (y ∷◌) more ∙ rw (keep_some k x xs e) refl
