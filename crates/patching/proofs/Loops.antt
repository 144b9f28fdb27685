-- A loop over entries among lent words: what one turn does to those before it and to the rest. Assumes nothing.
use Prim.Native.Nat.{ℕ, zero, suc, ◌+◌, ◌<◌, ◌≤◌}
use mathlib.Core.Path.{◌≡◌, sym, ap, ◌∙◌}
use mathlib.Core.Bool.{Bool, true, false, ◌||◌, or-false, or_assoc}
use mathlib.Core.List.{List, [], ◌∷◌, ◌++◌, append-nil}
use native.Mathlib.Omega.{arith}
use native.Mathlib.Numerals.{add-one}
use lib.ListN.{length, get_or, take, drop, set, length-take, length-set, drop_of_length-le, take-append-drop}
use lib.Seq.{drop-cons, get_or-take, append_snoc, take-suc, take-suc-set, take-set-lt, drop-set-lt, drop-drop, length-take-le}
use Rattle.format.specs.Format.{pick}
use Rattle.format.specs.Fault.{any}
use Rattle.patching.specs.Entry.{Entry}
use Rattle.patching.specs.Book.{filter, overwrite}

module _ {A : Type 0} where
  pub drop-next : (l : List A) (i : ℕ) (d : A) → i < length l → drop i l ≡ get_or l i d ∷ drop (i + 1) l
  drop-next l i d h = rw (add-one, drop-cons l i d)

  pub get_d-held : (n : ℕ) (l : List A) (i : ℕ) (d : A) → i < length (take n l) → get_or (take n l) i d ≡ get_or l i d
  get_d-held n l i d h = get_or-take n l i d (omega (arith, length-take n l))

  -- of those passed, and one more
  any-suc : (p : A → Bool) (l : List A) (i : ℕ) (d : A) → i < length l → any p (take (suc i) l) ≡ (any p (take i l) || p (get_or l i d))
  unfolding any
  any-suc p [] i d h = absurd (omega arith)
  any-suc p (x ∷ l) zero d h = or-false (p x)
  any-suc p (x ∷ l) (suc i) d h =
      ap (λ (b : Bool). p x || b) (any-suc p l i d (omega arith)) ∙ sym (or_assoc (p x) (any p (take i l)) (p (get_or l i d)))

  pub any-passed : (p : A → Bool) (l : List A) (i : ℕ) (d : A) → i < length l → any p (take (i + 1) l) ≡ (any p (take i l) || p (get_or l i d))
  any-passed p l i d h = rw add-one (any-suc p l i d h)

  -- the entries are the first n of an array xs; those from i on are untouched by a store at k, below i
  module _ (xs : List A) (n : ℕ) (long : n ≤ length xs) where
    pub rest-next : (i : ℕ) (d : A) → i < n → drop i (take n xs) ≡ get_or xs i d ∷ drop (i + 1) (take n xs)
    rest-next i d h =
        let l : i < length (take n xs) = omega (arith, length-take n xs) in
        drop-next (take n xs) i d l ∙ ap (λ (x : A). x ∷ drop (i + 1) (take n xs)) (get_d-held n xs i d l)

    pub rest-set : (k i : ℕ) (a : A) → k < i → k < n → drop i (take n (set xs k a)) ≡ drop i (take n xs)
    rest-set k i a h l = ap (drop i) (take-set-lt n xs k a l) ∙ drop-set-lt i (take n xs) k a h

    pub rest_end : (i : ℕ) → n ≤ i → drop i (take n xs) ≡ []
    rest_end i h = let l : length (take n xs) ≤ i = omega (arith, length-take n xs) in drop_of_length-le (take n xs) l

    pub front-next : (i : ℕ) (d : A) (t : List A) → i < n → take (i + 1) xs ++ t ≡ take i xs ++ (get_or xs i d ∷ t)
    front-next i d t h =
        ap (λ (m : ℕ). take m xs ++ t) (add-one i)
        ∙ ap (λ (l : List A). l ++ t) (take-suc xs i d (omega arith))
        ∙ append_snoc (take i xs) (get_or xs i d) t

    pub front-set : (k : ℕ) (a : A) (t : List A) → k < n → take (k + 1) (set xs k a) ++ t ≡ take k xs ++ (a ∷ t)
    front-set k a t h =
        ap (λ (m : ℕ). take m (set xs k a) ++ t) (add-one k)
        ∙ ap (λ (l : List A). l ++ t) (take-suc-set xs k a (omega arith))
        ∙ append_snoc (take k xs) a t

    -- a search, a turn further, and at its end
    pub any_step : (p : A → Bool) (i : ℕ) (d : A) (b : Bool) → i < n → p (get_or xs i d) ≡ b
        → any p (drop i (take n xs)) ≡ (b || any p (drop (i + 1) (take n xs)))
    unfolding any
    any_step p i d b h e = ap (any p) (rest-next i d h) ∙ ap (λ (b : Bool). b || any p (drop (i + 1) (take n xs))) e

    pub any-stop : (p : A → Bool) (i : ℕ) → n ≤ i → any p (drop i (take n xs)) ≡ false
    unfolding any
    any-stop p i h = ap (any p) (rest_end i h)

    pub filter-step : (p : A → Bool) (i : ℕ) (d : A) (b : Bool) → i < n → p (get_or xs i d) ≡ b
        → filter p (drop i (take n xs)) ≡ pick b (get_or xs i d ∷ filter p (drop (i + 1) (take n xs))) (filter p (drop (i + 1) (take n xs)))
    unfolding filter
    filter-step p i d b h e =
        ap (filter p) (rest-next i d h)
        ∙ ap (λ (b : Bool). pick b (get_or xs i d ∷ filter p (drop (i + 1) (take n xs))) (filter p (drop (i + 1) (take n xs)))) e

    pub filter-stop : (p : A → Bool) (i : ℕ) → n ≤ i → filter p (drop i (take n xs)) ≡ []
    unfolding filter
    filter-stop p i h = ap (filter p) (rest_end i h)

-- what stands behind the place of a store
pub behind-set : {A : Type 0} (xs ys : List A) (k : ℕ) (a : A) → drop k xs ≡ drop k ys → drop (k + 1) (set xs k a) ≡ drop (k + 1) ys
behind-set xs ys k a e = drop-set-lt (k + 1) xs k a (omega arith) ∙ sym (drop-drop 1 k xs) ∙ ap (drop 1) e ∙ drop-drop 1 k ys

-- the first k are the entries, and what is behind them is what was there
pub overwrite-by : (w xs ys : List Entry) (k : ℕ) → take k xs ≡ w → k ≤ length xs → drop k xs ≡ drop k ys → (k ≡ length w) × (xs ≡ overwrite w ys)
overwrite-by w xs ys k p long q =
    let n : k ≡ length w = sym (length-take-le k xs long) ∙ ap length p in (
      n,
      sym (take-append-drop k xs) ∙ ap (λ (l : List Entry). l ++ drop k xs) p ∙ ap (λ (l : List Entry). w ++ l) q ∙ ap (λ (m : ℕ). w ++ drop m ys) n,
    )

-- ---- entries that pass a test are kept: of the first n numbers xs, as they are now in ys, i are looked at and k kept

pub record Keeping (p : Entry → Bool) (n : ℕ) (xs ys : List Entry) (k i : ℕ) : Type 0 where
  pub below : k ≤ i
  pub within : i ≤ n
  pub as_many : length ys ≡ length xs
  pub kept : take k ys ++ filter p (drop i (take n ys)) ≡ filter p (take n xs)
  pub behind : drop k ys ≡ drop k xs

module _ {p : Entry → Bool} {n : ℕ} {xs ys : List Entry} {k i : ℕ} (long : n ≤ length xs) (s : Keeping p n xs ys k i) where
  many : n ≤ length ys
  many = omega (arith, s.as_many)

  module _ (h : i < n) where
    abbrev x : Entry
    x = get_or ys i 0

    -- the next one is dropped
    pub keep-drop : p x ≡ false → Keeping p n xs ys k (i + 1)
    keep-drop e = record {
      below = omega (arith, s.below);
      within = omega arith;
      as_many = s.as_many;
      kept = ap (λ (t : List Entry). take k ys ++ t) (sym (filter-step ys n many p i 0 false h e)) ∙ s.kept;
      behind = s.behind;
    }

    -- the next one is kept
    pub keep-next : p x ≡ true → Keeping p n xs (set ys k x) (k + 1) (i + 1)
    keep-next e = let b : k ≤ i = s.below in record {
      below = omega arith;
      within = omega arith;
      as_many = length-set ys k x ∙ s.as_many;
      kept = ap (λ (l : List Entry). take (k + 1) (set ys k x) ++ filter p l) (rest-set ys n many k (i + 1) x (omega arith) (omega arith))
          ∙ front-set ys n many k x (filter p (drop (i + 1) (take n ys))) (omega arith)
          ∙ sym (ap (λ (l : List Entry). take k ys ++ l) (filter-step ys n many p i 0 true h e))
          ∙ s.kept;
      behind = behind-set ys xs k x s.behind;
    }

  pub keep-end : n ≤ i → (k ≡ length (filter p (take n xs))) × (ys ≡ overwrite (filter p (take n xs)) xs)
  keep-end h =
      overwrite-by (filter p (take n xs)) ys xs k
      (sym (append-nil (take k ys)) ∙ ap (λ (t : List Entry). take k ys ++ t) (sym (filter-stop ys n many p i h)) ∙ s.kept)
      (omega (arith, s.below, s.within, many))
      s.behind
