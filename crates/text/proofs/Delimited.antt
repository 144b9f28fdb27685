-- Self-delimiting texts: two of them, whatever stands behind each, are alike only if what they print is equal.
use Prim.Native.Nat.{ℕ, ◌≤◌}
use mathlib.Core.Path.{◌≡◌, refl, sym, ap, ◌∙◌}
use mathlib.Core.List.{List, [], ◌∷◌, ◌++◌, append_assoc, append_cancel_left}
use native.Mathlib.Omega.{arith}
use lib.ListN.{length}
use Rattle.format.specs.Format.{concat_map, All}
use Rattle.text.specs.Text.{keyed, line}

-- where k x and k y begin alike, with whatever stands behind each, x and y are equal, and so is what stands behind; for those that fit
abbrev pub Delimited : {A : Type 0} (Fits : A → Type 0) (k : A → List ℕ) → Type 0
Delimited {A} Fits k = (x y : A) (r t : List ℕ) → Fits x → Fits y → k x ++ r ≡ k y ++ t → (x ≡ y) × (r ≡ t)

-- with nothing behind them
pub injective : {A : Type 0} (Fits : A → Type 0) (k : A → List ℕ) → Delimited Fits k → (x y : A) → Fits x → Fits y → k x ≡ k y → x ≡ y
injective Fits k h x y hx hy e = (h x y [] [] hx hy (ap (◌++ []) e)).0

regroup : (a b c d r t : List ℕ) → a ++ b ++ r ≡ c ++ d ++ t → a ++ (b ++ r) ≡ c ++ (d ++ t)
regroup a b c d r t e = sym (append_assoc a b r) ∙ e ∙ append_assoc c d t

-- one text behind another: the first determines what `key` finds in the whole, and the second may count on it
pub sequel : {A B : Type 0} (Fits : A → Type 0) (Rest : B → Type 0) (k : A → List ℕ) (more : B → List ℕ) (key : B → A)
    → Delimited Fits k → ((a : A) → Delimited (λ b. (key b ≡ a) × Rest b) more) → Delimited (λ b. Fits (key b) × Rest b) (λ b. k (key b) ++ more b)
sequel Fits Rest k more key first second x y r t hx hy e =
    let front = first (key x) (key y) (more x ++ r) (more y ++ t) hx.0 hy.0 (regroup (k (key x)) (more x) (k (key y)) (more y) r t e) in
    second (key y) x y r t (front.0, hx.1) (refl, hy.1) front.1

-- as many items, one behind another
pub items-delimited : {A : Type 0} (Fits : A → Type 0) (k : A → List ℕ) → Delimited Fits k
    → (n : ℕ) → Delimited (λ xs. (length xs ≡ n) × All Fits xs) (concat_map k)
unfolding concat_map
items-delimited {A} Fits k one n xs ys r t hx hy = go xs ys (hx.0 ∙ sym hy.0) hx.1 hy.1 where
  go : (xs ys : List A) → length xs ≡ length ys → All Fits xs → All Fits ys → concat_map k xs ++ r ≡ concat_map k ys ++ t → (xs ≡ ys) × (r ≡ t)
  go [] [] h hx hy e = (refl, e)
  go [] (y ∷ ys) h hx hy e = absurd (omega arith)
  go (x ∷ xs) [] h hx hy e = absurd (omega arith)
  go (x ∷ xs) (y ∷ ys) h hx hy e =
      let rest : List A → List ℕ → List ℕ = λ zs q. concat_map k zs ++ q in
      let first = one x y (rest xs r) (rest ys t) hx.0 hy.0 (regroup (k x) (concat_map k xs) (k y) (concat_map k ys) r t e) in
      let others = go xs ys (omega arith) hx.1 hy.1 first.1 in
      (rw (first.0, others.0) refl, others.1)

-- items to the end, none of which is printed as nothing
pub all-delimited : {A : Type 0} (Fits : A → Type 0) (k : A → List ℕ) → Delimited Fits k → ((x : A) (r : List ℕ) → [] ≡ k x ++ r → ⊥)
    → (xs ys : List A) → All Fits xs → All Fits ys → concat_map k xs ≡ concat_map k ys → xs ≡ ys
unfolding concat_map
all-delimited Fits k one some [] [] hx hy e = refl
all-delimited Fits k one some [] (y ∷ ys) hx hy e = absurd (some y (concat_map k ys) e)
all-delimited Fits k one some (x ∷ xs) [] hx hy e = absurd (some x (concat_map k xs) (sym e))
all-delimited Fits k one some (x ∷ xs) (y ∷ ys) hx hy e =
    let first = one x y (concat_map k xs) (concat_map k ys) hx.0 hy.0 e in
    rw (first.0, all-delimited Fits k one some xs ys hx.1 hy.1 first.1) refl

-- ---- lines

-- no line feed, nor any other control
abbrev pub Printable : List ℕ → Type 0
Printable s = All (λ c. 32 ≤ c) s

-- what stands before a line feed
ended : (s t r q : List ℕ) → Printable s → Printable t → s ++ (10 ∷ r) ≡ t ++ (10 ∷ q) → (s ≡ t) × (r ≡ q)
ended [] [] r q hs ht e = (refl, cc)
ended [] (c ∷ t) r q hs ht e = let f : 10 ≡ c = cc in absurd (omega arith)
ended (c ∷ s) [] r q hs ht e = let f : c ≡ 10 = cc in absurd (omega arith)
ended (c ∷ s) (d ∷ t) r q hs ht e =
    let f : c ≡ d = cc in
    let rest = ended s t r q hs.1 ht.1 cc in
    (rw (f, rest.0) refl, rest.1)

line-is : (key value r : List ℕ) → line key value ++ r ≡ keyed key ++ (value ++ (10 ∷ r))
unfolding line
line-is key value r = append_assoc (keyed key) (value ++ (10 ∷ [])) r ∙ ap (keyed key ++◌) (append_assoc value (10 ∷ []) r)

-- a line determines its value, if its text does and has no line feed
pub line-delimited : {A : Type 0} (Fits : A → Type 0) (k : A → List ℕ) → ((x : A) → Printable (k x)) → ((x y : A) → Fits x → Fits y → k x ≡ k y → x ≡ y)
    → (key : List ℕ) → Delimited Fits (λ x. line key (k x))
line-delimited Fits k printable injective key x y r t hx hy e =
    let values = append_cancel_left (keyed key) (k x ++ (10 ∷ r)) (k y ++ (10 ∷ t)) (sym (line-is key (k x) r) ∙ e ∙ line-is key (k y) t) in
    let both = ended (k x) (k y) r t (printable x) (printable y) values in
    (injective x y hx hy both.0, both.1)
