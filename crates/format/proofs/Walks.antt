-- The walk's claim about a whole list of packets, for any step that finds the packet at its place; and about every slice.
use Prim.Native.Nat.{ℕ, zero, suc, ◌+◌, ◌-◌, ◌≤◌, ◌<◌, zero-le}
use mathlib.Core.Path.{◌≡◌, refl, ◌∙◌}
use mathlib.Core.List.{List, [], ◌∷◌, ◌++◌, append_assoc, map}
use mathlib.Core.Option.{Option, some}
use native.Mathlib.Nat.{not-suc-le-zero, zero-add}
use native.Mathlib.Omega.{arith}
use lib.ListN.{length, drop, length-append, length-drop}
use lib.Seq.{drop-drop, drop-append_seam}
use Rattle.format.specs.Format.{concat_map, All, total}
use Rattle.format.specs.Walk.{Step, stop, report, follow, walk_from, walk_all, reports, keep, Ended}

-- ---- packets laid end to end

module _ {P R : Type 0} (step : List ℕ → ℕ → Step R) (bytes : P → List ℕ) (expected : ℕ → P → R) (Sent : P → Type 0)
    (finds : (s : List ℕ) (at : ℕ) (p : P) (rest : List ℕ) → Sent p → drop at s ≡ bytes p ++ rest → step s at ≡ report (expected at p) (at + length (bytes p)))
  where
    -- packets at an offset and a tail behind them at which the step stops with n: the walk from there
    walk_from_lem : (s tail : List ℕ) (n : ℕ) → ((at : ℕ) → drop at s ≡ tail → step s at ≡ stop n at) → (ps : List P) → All Sent ps
        → (at : ℕ) → drop at s ≡ concat_map bytes ps ++ tail → (fuel : ℕ) → length ps < fuel
        → walk_from step fuel s at ≡ (reports bytes expected at ps, some (n, at + length (concat_map bytes ps)))
    unfolding walk_from reports concat_map
    walk_from_lem s tail n stops ps hs at e zero l = absurd (not-suc-le-zero l)
    walk_from_lem s tail n stops [] hs at e (suc fuel) l = let z : at + 0 ≡ at = omega arith in rw (stops at e, z)
    walk_from_lem s tail n stops (p ∷ ps) hs at e (suc fuel) l =
        let behind = concat_map bytes ps ++ tail in
        let here : drop at s ≡ bytes p ++ behind = e ∙ append_assoc (bytes p) (concat_map bytes ps) tail in
        let next : drop (at + length (bytes p)) s ≡ behind = rw (← drop-drop, here) (drop-append_seam (bytes p) behind) in
        let far : at + length (bytes p ++ concat_map bytes ps) ≡ at + length (bytes p) + length (concat_map bytes ps) =
        omega (arith, length-append (bytes p) (concat_map bytes ps)) in
        rw (finds s at p behind hs.0 here, walk_from_lem s tail n stops ps hs.1 (at + length (bytes p)) next fuel (omega arith), far)

    count-packets : ((p : P) → Sent p → 0 < length (bytes p)) → (ps : List P) → All Sent ps → length ps ≤ length (concat_map bytes ps)
    unfolding concat_map
    count-packets full [] hs = zero-le
    count-packets full (p ∷ ps) hs = omega (arith, length-append (bytes p) (concat_map bytes ps), full p hs.0, count-packets full ps hs.1)

    -- a stream of packets and a tail: exactly the packets' reports, in order, and the number with which the tail stops, where it begins
    pub walk-packets : ((p : P) → Sent p → 0 < length (bytes p)) → (ps : List P) → All Sent ps → (tail : List ℕ) (n : ℕ)
        → ((s : List ℕ) (at : ℕ) → drop at s ≡ tail → step s at ≡ stop n at)
        → walk_all step (concat_map bytes ps ++ tail) ≡ (reports bytes expected 0 ps, some (n, length (concat_map bytes ps)))
    walk-packets full ps hs tail n stops =
        let s = concat_map bytes ps ++ tail in
        let ends = walk_from_lem s tail n (stops s) ps hs 0 refl (suc (length s)) (omega (arith, count-packets full ps hs, length-append (concat_map bytes ps) tail)) in
        rw zero-add at ends

-- where a report tells of its packet the same at every offset, the reports tell of the packets what the packets say
pub keep-reports : {P R M : Type 0} (bytes : P → List ℕ) (expected : ℕ → P → R) (tells : R → Option M) (says : P → Option M)
    → ((at : ℕ) (p : P) → tells (expected at p) ≡ says p) → (at : ℕ) (ps : List P) → keep tells (reports bytes expected at ps) ≡ keep says ps
unfolding reports keep
keep-reports bytes expected tells says h at [] = refl
keep-reports bytes expected tells says h at (p ∷ ps) = rw (h at p, keep-reports bytes expected tells says h (at + length (bytes p)) ps)

-- what is made of a report by its packet and offset is kept of the reports as of the packets at their offsets
pub keep-due : {P R M : Type 0} (bytes : P → List ℕ) (expected : ℕ → P → R) (k : R → Option M) (due : ℕ → P → Option M)
    → ((at : ℕ) (p : P) → k (expected at p) ≡ due at p) → (at : ℕ) (ps : List P)
    → keep k (reports bytes expected at ps) ≡ keep (λ (o : Option M). o) (reports bytes due at ps)
unfolding reports keep
keep-due bytes expected k due h at [] = refl
keep-due bytes expected k due h at (p ∷ ps) = rw (h at p, keep-due bytes expected k due h (at + length (bytes p)) ps) refl

-- ---- any slice

-- what a step may do at an offset: stop with a number of Last; or report a packet of one byte or more that lies within the slice
pub data Steps {R : Type 0} (Last : ℕ → Type 0) (size_of : R → ℕ) (at left : ℕ) : Step R → Type 0 where
  stops : {n : ℕ} → Last n → (n ≡ 0 → left ≡ 0) → Steps Last size_of at left (stop n at)
  goes : {r : R} → 0 < size_of r → size_of r ≤ left → Steps Last size_of at left (report r (at + size_of r))

module _ {R : Type 0} (step : List ℕ → ℕ → Step R) (Last : ℕ → Type 0) (size_of : R → ℕ)
    (does : (s : List ℕ) (at : ℕ) → Steps Last size_of at (length (drop at s)) (step s at)) where
  ends-from : (s : List ℕ) (fuel at : ℕ) → at ≤ length s → length s - at < fuel → Ended Last size_of s at (walk_from step fuel s at)
  unfolding walk_from total
  ends-from s zero at l f = absurd (not-suc-le-zero f)
  ends-from s (suc fuel) at l f = on (step s at) (does s at) (ends-from s fuel) where
    on : (x : Step R) → Steps Last size_of at (length (drop at s)) x
        → ((at : ℕ) → at ≤ length s → length s - at < fuel → Ended Last size_of s at (walk_from step fuel s at))
        → Ended Last size_of s at (follow (walk_from step fuel s) x)
    on x (stops {n} h z) ends = record {
      number = n;
      offset = at;
      ends = refl;
      last = h;
      walked = omega arith;
      makes_up = omega (arith, length-drop at s);
      whole = λ e. let none_left : length (drop at s) ≡ 0 = z e in omega (arith, length-drop at s);
    }
    on x (goes {r} p q) ends =
        let more = ends (at + size_of r) (omega (arith, length-drop at s)) (omega (arith, length-drop at s)) in
        record {
          number = more.number;
          offset = more.offset;
          ends = more.ends;
          last = more.last;
          walked = omega (arith, more.walked);
          makes_up = more.makes_up;
          whole = more.whole;
        }

  pub walk_ends : (s : List ℕ) → Ended Last size_of s 0 (walk_all step s)
  walk_ends s = ends-from s (suc (length s)) 0 zero-le (omega arith)

-- what f makes of each report, where it knows the packet's place in the slice
pub map-reports : {P R Q : Type 0} (s : List ℕ) (bytes : P → List ℕ) (seen_as : ℕ → P → R) (expected : ℕ → P → Q) (f : R → Q) (Sent : P → Type 0)
    → ((at : ℕ) (p : P) (rest : List ℕ) → Sent p → drop at s ≡ bytes p ++ rest → f (seen_as at p) ≡ expected at p)
    → (tail : List ℕ) (ps : List P) → All Sent ps → (at : ℕ) → drop at s ≡ concat_map bytes ps ++ tail
    → map f (reports bytes seen_as at ps) ≡ reports bytes expected at ps
unfolding reports concat_map
map-reports s bytes seen_as expected f Sent h tail [] hs at e = refl
map-reports s bytes seen_as expected f Sent h tail (p ∷ ps) hs at e =
    let behind = concat_map bytes ps ++ tail in
    let here : drop at s ≡ bytes p ++ behind = e ∙ append_assoc (bytes p) (concat_map bytes ps) tail in
    let next : drop (at + length (bytes p)) s ≡ behind = rw (← drop-drop, here) (drop-append_seam (bytes p) behind) in
    rw (h at p behind hs.0 here, map-reports s bytes seen_as expected f Sent h tail ps hs.1 (at + length (bytes p)) next)
