-- An entry compared with those held, one after another. Assumes nothing.
use Prim.Native.Nat.{ℕ, ◌+◌, ◌-◌, ◌<◌, ◌≤◌}
use mathlib.Core.Path.{◌≡◌, refl, sym, ap, ap₂, ◌∙◌, subst}
use mathlib.Core.Bool.{Bool, true, false, not, ◌&&◌, ◌||◌}
use mathlib.Core.List.{List, [], ◌∷◌, ◌++◌, append_assoc, append-nil}
use native.Mathlib.Omega.{arith}
use native.Mathlib.Numerals.{add-one}
use lib.ListN.{length, get_or, take, drop, length-append, length-take, drop_of_length-le, take-append-drop}
use lib.Seq.{take-suc, take-take, take_all, append_snoc, take-append-le, drop-append-le, length-take-le, take_at, drop_at}
use Rattle.format.specs.Format.{pick}
use Rattle.format.specs.Fault.{any}
use Rattle.patching.specs.Entry.{Entry, same, shares, before, insert}
use Rattle.patching.specs.Book.{filter, others, clashes}
use Rattle.patching.proofs.Lists.{filter-append, filter-one}
use Rattle.patching.proofs.Fields.{shares-comm}
use Rattle.patching.proofs.Loops.{drop-next}
use Rattle.refusal.specs.declared.Refusal.TheVariants.{Shared}
use Rattle.book.specs.Scan.{remove_at, insert_at, Owned, Ahead, Finds, Clashes}
use Rattle.book.specs.declared.Place.{Place}

module _ (e : Entry) where
  abbrev other : Entry → Bool
  other x = not (same e x)

  pub owned-start : (end : ℕ) → Owned e [] end end 0
  unfolding filter
  owned-start end = record { as_many = refl; none = λ q. (refl, refl); one = λ q. absurd (omega arith) }

  -- the i-th of the entries held is looked at
  module _ (l : List Entry) (i : ℕ) (h : i < length l) where
    abbrev x : Entry
    x = get_or l i 0

    front : take (i + 1) l ≡ take i l ++ (x ∷ [])
    front = ap (λ (k : ℕ). take k l) (add-one i) ∙ take-suc l i 0 h

    passed : length (take i l) ≡ i
    passed = length-take-le i l (omega arith)

    ahead_of : (b : Bool) → other x ≡ b → others e (take (i + 1) l) ≡ others e (take i l) ++ pick b (x ∷ []) []
    unfolding filter
    ahead_of b q =
        ap (others e) front ∙ filter-append other (take i l) (x ∷ [])
        ∙ ap (λ (t : List Entry). others e (take i l) ++ t) (filter-one other x b q [])

    rest_of : (b : Bool) → other x ≡ b → others e (drop i l) ≡ pick b (x ∷ others e (drop (i + 1) l)) (others e (drop (i + 1) l))
    rest_of b q = ap (others e) (drop-next l i 0 h) ∙ filter-one other x b q (drop (i + 1) l)

    module _ (q : same e x ≡ true) where
      own-ahead : others e (take (i + 1) l) ≡ others e (take i l)
      own-ahead = ahead_of false (ap not q) ∙ append-nil (others e (take i l))

      alone : remove_at i (take (i + 1) l) ≡ take i l
      alone =
          let w : length (take (i + 1) l) ≤ i + 1 = omega (arith, length-take (i + 1) l) in
          ap₂ (λ (s t : List Entry). s ++ t) (take-take i (i + 1) l (omega arith)) (drop_of_length-le (take (i + 1) l) w)
          ∙ append-nil (take i l)

      pub owned-own : {end own owns : ℕ} → Owned e (take i l) end own owns → Owned e (take (i + 1) l) end i (owns + 1)
      owned-own {owns = owns} o =
          let m : length (take (i + 1) l) ≡ i + 1 = ap length front ∙ omega (arith, length-append (take i l) (x ∷ []), passed) in record {
            as_many = ap (λ (t : List Entry). owns + 1 + length t) own-ahead ∙ omega (arith, o.as_many, passed);
            none = λ z. absurd (omega arith);
            one = λ z. let w : owns ≡ 0 = omega arith in (omega arith, alone ∙ sym (own-ahead ∙ (o.none w).1));
          }

    module _ (q : same e x ≡ false) where
      other-ahead : others e (take (i + 1) l) ≡ others e (take i l) ++ (x ∷ [])
      other-ahead = ahead_of true (ap not q)

      beside : (own : ℕ) → own < length (take i l) → remove_at own (take (i + 1) l) ≡ remove_at own (take i l) ++ (x ∷ [])
      beside own w =
          ap (remove_at own) front
          ∙ ap₂ (λ (s t : List Entry). s ++ t)
          (take-append-le own (take i l) (x ∷ []) (omega arith))
          (drop-append-le (own + 1) (take i l) (x ∷ []) (omega arith))
          ∙ sym (append_assoc (take own (take i l)) (drop (own + 1) (take i l)) (x ∷ []))

      pub owned-other : {end own owns : ℕ} → Owned e (take i l) end own owns → Owned e (take (i + 1) l) end own owns
      owned-other {own = own} {owns = owns} o =
          let m : length (take (i + 1) l) ≡ i + 1 = ap length front ∙ omega (arith, length-append (take i l) (x ∷ []), passed) in record {
            as_many = ap (λ (t : List Entry). owns + length t) other-ahead ∙ omega (arith, length-append (others e (take i l)) (x ∷ []), o.as_many, passed);
            none = λ z. let w = o.none z in (w.0, other-ahead ∙ ap (λ (t : List Entry). t ++ (x ∷ [])) w.1 ∙ sym front);
            one = λ z. let w = o.one z in
                let u : own < i = omega (arith, w.0, passed) in
                (omega arith, beside own w.0 ∙ ap (λ (t : List Entry). t ++ (x ∷ [])) w.1 ∙ sym other-ahead);
          }

    -- ---- what the entry looked at says of a clash

    any_next : (b : Bool) → clashes e x ≡ b → any (clashes e) (drop i l) ≡ (b || any (clashes e) (drop (i + 1) l))
    unfolding any
    any_next b q = ap (any (clashes e)) (drop-next l i 0 h) ∙ ap (λ (t : Bool). t || any (clashes e) (drop (i + 1) l)) q

    own-clear : same e x ≡ true → any (clashes e) (drop i l) ≡ any (clashes e) (drop (i + 1) l)
    own-clear q = any_next false (ap (λ (t : Bool). not t && shares e x) q)

    other-clear : same e x ≡ false → shares e x ≡ false → any (clashes e) (drop i l) ≡ any (clashes e) (drop (i + 1) l)
    other-clear q s = any_next false (ap₂ (λ (t u : Bool). not t && u) q s)

    clashed : same e x ≡ false → shares e x ≡ true → any (clashes e) (drop i l) ≡ true
    clashed q s = any_next true (ap₂ (λ (t u : Bool). not t && u) q s)

-- ---- up to the first that e is listed before: e is behind the others of the first i

pub record Reached (e : Entry) (l : List Entry) (own owns i : ℕ) : Type 0 where
  pub within : i ≤ length l
  pub owned : Owned e (take i l) (length l) own owns
  pub clear : any (clashes e) l ≡ any (clashes e) (drop i l)
  pub stands : insert e (others e l) ≡ others e (take i l) ++ insert e (others e (drop i l))

pub reach-start : (e : Entry) (l : List Entry) → Reached e l (length l) 0 0
unfolding filter
reach-start e l = record { within = omega arith; owned = owned-start e (length l); clear = refl; stands = refl }

module _ {e : Entry} (l : List Entry) {own owns i : ℕ} (r : Reached e l own owns i) where
  pub as-far : owns ≤ i
  as-far = omega (arith, r.owned.as_many, length-take i l)

  module _ (h : i < length l) where
    abbrev y : Entry
    y = get_or l i 0

    abbrev rest : List Entry
    rest = others e (drop (i + 1) l)

    more : i + 1 ≤ length l
    more = omega arith

    pub reach-own : same e y ≡ true → Reached e l i (owns + 1) (i + 1)
    reach-own q = record {
      within = more;
      owned = owned-own e l i h q r.owned;
      clear = r.clear ∙ own-clear e l i h q;
      stands = r.stands ∙ ap₂ (λ (s t : List Entry). s ++ insert e t) (sym (own-ahead e l i h q)) (rest_of e l i h false (ap not q));
    }

    module _ (q : same e y ≡ false) where
      behind : others e (drop i l) ≡ y ∷ rest
      behind = rest_of e l i h true (ap not q)

      insert-by : (b : Bool) → before e y ≡ b → insert e (others e (drop i l)) ≡ pick b (e ∷ y ∷ rest) (y ∷ insert e rest)
      unfolding insert
      insert-by b p = ap (insert e) behind ∙ ap (λ (t : Bool). pick t (e ∷ y ∷ rest) (y ∷ insert e rest)) p

      pub reach-other : before e y ≡ false → shares e y ≡ false → Reached e l own owns (i + 1)
      reach-other p s = record {
        within = more;
        owned = owned-other e l i h q r.owned;
        clear = r.clear ∙ other-clear e l i h q s;
        stands = r.stands
            ∙ ap (λ (t : List Entry). others e (take i l) ++ t) (insert-by false p)
            ∙ sym (append_snoc (others e (take i l)) y (insert e rest))
            ∙ ap (λ (s : List Entry). s ++ insert e rest) (sym (other-ahead e l i h q));
      }

      pub reach-before : before e y ≡ true → Ahead e l (record { hole = own; own_count = owns; to = i - owns })
      reach-before p = record {
        next = i;
        passed = omega (arith, as-far);
        within = r.within;
        owned = r.owned;
        clear = r.clear;
        stands = r.stands ∙ ap (λ (t : List Entry). others e (take i l) ++ t) (insert-by true p ∙ ap (λ (t : List Entry). e ∷ t) (sym behind));
      }

      pub reach-clash : shares e y ≡ true → Clashes e l Shared
      reach-clash s = (refl, r.clear ∙ clashed e l i h q s)

  pub reach-end : length l ≤ i → Ahead e l (record { hole = own; own_count = owns; to = length l - owns })
  unfolding filter insert
  reach-end h = record {
    next = i;
    passed = omega (arith, as-far, r.within);
    within = r.within;
    owned = r.owned;
    clear = r.clear;
    stands = r.stands ∙ ap (λ (t : List Entry). others e (take i l) ++ insert e (others e t)) none_left
        ∙ sym (ap (λ (t : List Entry). others e (take i l) ++ (e ∷ others e t)) none_left);
  }
    where
      none_left : drop i l ≡ []
      none_left = drop_of_length-le l h

-- ---- the rest of them

pub record Passed (e : Entry) (l : List Entry) (p : Place) (i : ℕ) : Type 0 where
  pub within : i ≤ length l
  pub owned : Owned e (take i l) (length l) p.hole p.own_count
  pub clear : any (clashes e) l ≡ any (clashes e) (drop i l)
  pub stands : (p.to ≤ length (others e l)) × (insert e (others e l) ≡ insert_at p.to e (others e l))

module _ (e : Entry) (l : List Entry) {p : Place} (a : Ahead e l p) where
  abbrev first : List Entry
  first = others e (take a.next l)

  abbrev last : List Entry
  last = others e (drop a.next l)

  all : others e l ≡ first ++ last
  all = ap (others e) (sym (take-append-drop a.next l)) ∙ filter-append (other e) (take a.next l) (drop a.next l)

  ahead-length : length first ≡ p.to
  ahead-length = omega (arith, a.owned.as_many, length-take-le a.next l a.within, a.passed)

  pub pass-start : Passed e l p (p.to + p.own_count)
  pass-start =
      subst (λ (n : ℕ). Passed e l p n) (sym a.passed) (record {
        within = a.within;
        owned = a.owned;
        clear = a.clear;
        stands = (
          omega (arith, ap length all, length-append first last, ahead-length),
          a.stands ∙ sym (ap (insert_at p.to e) all
              ∙ ap₂ (λ (s u : List Entry). s ++ (e ∷ u)) (take_at first last p.to ahead-length) (drop_at first last p.to ahead-length)),
        );
      })

module _ {e : Entry} (l : List Entry) {p : Place} {i : ℕ} (r : Passed e l p i) where
  module _ (h : i < length l) where
    abbrev z : Entry
    z = get_or l i 0

    pub pass-own : same e z ≡ true → Passed e l (record { hole = i; own_count = p.own_count + 1; to = p.to }) (i + 1)
    pass-own q = record {
      within = omega arith;
      owned = owned-own e l i h q r.owned;
      clear = r.clear ∙ own-clear e l i h q;
      stands = r.stands;
    }

    module _ (q : same e z ≡ false) where
      pub pass-other : shares z e ≡ false → Passed e l p (i + 1)
      pass-other s = record {
        within = omega arith;
        owned = owned-other e l i h q r.owned;
        clear = r.clear ∙ other-clear e l i h q (sym (shares-comm e z) ∙ s);
        stands = r.stands;
      }

      pub pass-clash : shares z e ≡ true → Clashes e l Shared
      pass-clash s = (refl, r.clear ∙ clashed e l i h q (sym (shares-comm e z) ∙ s))

  pub pass-end : length l ≤ i → Finds e l p
  unfolding any
  pass-end h = record {
    clear = r.clear ∙ ap (any (clashes e)) (drop_of_length-le l h);
    owned = subst (λ (k : List Entry). Owned e k (length l) p.hole p.own_count) (take_all i l h) r.owned;
    stands = r.stands;
  }
