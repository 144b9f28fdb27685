-- The offsets of the messages of some kinds: what each step of the walk gives, that they rise, and how many they can be.
use Prim.Native.Nat.{ℕ, zero, suc, ◌+◌, ◌-◌, ◌*◌, ◌≤◌}
use mathlib.Core.Path.{◌≡◌, refl, ap, subst}
use mathlib.Core.Bool.{Bool, true, false}
use mathlib.Core.Logic.{◌⊎◌, inl, inr}
use mathlib.Core.List.{List, [], ◌∷◌, map}
use mathlib.Core.Option.{Option, none, some}
use native.Mathlib.Omega.{arith}
use lib.ListN.{length}
use Rattle.format.specs.View.{View}
use Rattle.format.specs.Walk.{Step, stop, report, Walked, follow, walk_from, keep}
use Rattle.format.proofs.Members.{keep_all}
use Rattle.protocol.specs.Kind.{Kind}
use Rattle.protocol.specs.Step.{Report, step_at, walk}
use Rattle.protocol.proofs.Steps.{moved}
use Rattle.supporting.specs.Offsets.{is_message_of, offset_of, offsets_of, end_number, stop_of}
use Rattle.supporting.specs.Claims.{RisingFrom}
use Rattle.supporting.proofs.Walking.{walk_on, walk_start, walk-stop, walk-report}

-- ---- from an offset on

module _ (s : List ℕ) where
  unfoldable pub stop_from : ℕ → ℕ
  stop_from at = end_number (walk_on s at).1

  pub stop-start : stop_of s ≡ stop_from 0
  unfolding stop_of stop_from
  stop-start = ap (λ (w : Walked (Report View)). end_number w.1) (walk_start s)

  pub stop-report : (at : ℕ) {r : Report View} {next : ℕ} → step_at s at ≡ report r next → stop_from at ≡ stop_from next
  unfolding stop_from
  stop-report at e = rw (walk-report s at e) refl

  pub stop-stop : (at : ℕ) {n o : ℕ} → step_at s at ≡ stop n o → stop_from at ≡ n
  unfolding stop_from
  stop-stop at e = rw (walk-stop s at e) refl

module _ (test : Kind → Bool) (s : List ℕ) where
  unfoldable pub offsets_from : ℕ → List ℕ
  offsets_from at = keep (offset_of test) (walk_on s at).0

  pub offsets-start : offsets_of test s ≡ offsets_from 0
  unfolding offsets_of offsets_from
  offsets-start = ap (λ (w : Walked (Report View)). keep (offset_of test) w.0) (walk_start s)

  pub offsets-stop : (at : ℕ) {n o : ℕ} → step_at s at ≡ stop n o → offsets_from at ≡ []
  unfolding offsets_from keep
  offsets-stop at e = rw (walk-stop s at e) refl

  module _ (at : ℕ) {r : Report View} {next : ℕ} (e : step_at s at ≡ report r next) where
    pub offsets-pass : is_message_of test r.content ≡ false → offsets_from at ≡ offsets_from next
    unfolding offsets_from keep
    offsets-pass h = rw (walk-report s at e, h) refl

    pub offsets-take : is_message_of test r.content ≡ true → offsets_from at ≡ r.offset ∷ offsets_from next
    unfolding offsets_from keep
    offsets-take h = rw (walk-report s at e, h) refl

-- ---- over the whole walk

-- what is kept of the reports is offsets of theirs
module _ (k : Report View → Option ℕ) (offset-of : (r : Report View) → (k r ≡ none) ⊎ (k r ≡ some r.offset)) (s : List ℕ) where
  -- induction over the walk: P holds of no offsets, and where it holds of those from the next packet on, also of those from this one on,
  -- with and without its own
  along : (P : ℕ → List ℕ → Type 0) → ((at : ℕ) → P at [])
      → ((at next : ℕ) (xs : List ℕ) → at + 20 ≤ next → next ≤ length s → P next xs → P at xs × P at (at ∷ xs))
      → (f at : ℕ) → P at (keep k (walk_from step_at f s at).0)
  unfolding keep walk_from
  along P none_left before zero at = none_left at
  along P none_left before (suc f) at = on (step_at s at) refl (along P none_left before f)
    where
      on : (x : Step (Report View)) → step_at s at ≡ x → ((next : ℕ) → P next (keep k (walk_from step_at f s next).0))
          → P at (keep k (follow (walk_from step_at f s) x).0)
      on (stop n o) e more = none_left at
      on (report r next) e more =
          let m = moved s at e in
          by (offset-of r) m.starts (before at next (keep k (walk_from step_at f s next).0) m.on m.within (more next))
        where
          by : (k r ≡ none) ⊎ (k r ≡ some r.offset) → r.offset ≡ at
              → P at (keep k (walk_from step_at f s next).0) × P at (at ∷ keep k (walk_from step_at f s next).0)
              → P at (keep k (r ∷ (walk_from step_at f s next).0))
          by (inl e) o h = rw e h.0
          by (inr e) o h = rw (e, o) h.1

  lower : {a b : ℕ} (xs : List ℕ) → a ≤ b → RisingFrom b xs → RisingFrom a xs
  lower [] h r = tt
  lower (x ∷ xs) h r = (omega (arith, r.0), r.1)

  kept-rise : RisingFrom 0 (keep k (walk s).0)
  unfolding walk
  kept-rise = along RisingFrom (λ at. tt) (λ at next xs m w r. (lower xs (omega arith) r, (omega arith, lower xs (omega arith) r))) (suc (length s)) 0

  -- every packet has 20 bytes at least
  kept-few : length (keep k (walk s).0) * 20 ≤ length s
  unfolding walk
  kept-few =
      let h = along (λ at xs. length xs * 20 ≤ length s - at) (λ at. omega arith) (λ at next xs m w l. (omega arith, omega arith)) (suc (length s)) 0 in
      omega (arith, h)

module _ (test : Kind → Bool) where
  offset-of : (r : Report View) → (offset_of test r ≡ none) ⊎ (offset_of test r ≡ some r.offset)
  offset-of r = go (is_message_of test r.content) refl
    where
      go : (b : Bool) → is_message_of test r.content ≡ b → (offset_of test r ≡ none) ⊎ (offset_of test r ≡ some r.offset)
      go true e = inr (rw e refl)
      go false e = inl (rw e refl)

  pub rises : (s : List ℕ) → RisingFrom 0 (offsets_of test s)
  unfolding offsets_of
  rises s = kept-rise (offset_of test) offset-of s

  pub few : (s : List ℕ) → length (offsets_of test s) * 20 ≤ length s
  unfolding offsets_of
  few s = kept-few (offset_of test) offset-of s

pub packets-rise : (s : List ℕ) → RisingFrom 0 (map (λ (r : Report View). r.offset) (walk s).0)
packets-rise s =
    subst (RisingFrom 0) (keep_all (λ (r : Report View). r.offset) (walk s).0) (kept-rise (λ r. some r.offset) (λ r. inr refl) s)
