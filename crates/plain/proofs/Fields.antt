-- The state's plain fields: those that are no turn refuse every call.
use Prim.Native.Nat.{ℕ, ◌<◌, ◌≤◌}
use mathlib.Core.Path.{◌≡◌, refl}
use mathlib.Core.Logic.{inl, inr}
use mathlib.Core.Option.{Option, none, some}
use native.Mathlib.Omega.{arith}
use borrow.Author.Tests.{ne_eqb}
use mathlib.Core.Bool.{Bool, true, false, ◌&&◌}
use lib.Dec.{eqb}
use Rattle.protocol.specs.Kind.{Kind}
use Rattle.protocol.specs.Layer.{find}
use Rattle.writing.specs.Call.{Call, opens, give, closes}
use Rattle.writing.specs.Call.{Part, body, laser_feed_list, feed_name, laser_feed_frame, laser_point, fixture_list, fixture, identifier, fixture_data}
use Rattle.writing.specs.Writer.{is_flat, part_in_turn, in_turn, apply}
use Rattle.plain.specs.State.{kind_at, nowhere, turn_of, turn_at}
use Rattle.plain.specs.Claims.{Unmeant, Refuses}
use Rattle.plain.specs.declared.state.WriterState.{WriterState}

and-false : (b : Bool) → (b && false) ≡ false
and-false true = refl
and-false false = refl

part-never : (p : Part) → part_in_turn p nowhere ≡ false
part-never (body k v) = and-false (is_flat k)
part-never (laser_feed_list key count) = refl
part-never (feed_name name) = refl
part-never (laser_feed_frame key feed sequence count) = refl
part-never (laser_point v) = refl
part-never (fixture_list type count) = refl
part-never (fixture v count) = refl
part-never (identifier v) = refl
part-never (fixture_data v) = refl

never : (c : Call) → in_turn c nowhere ≡ false
never (opens k request hint) = refl
never (give p) = part-never p
never closes = refl

-- a code above 19 is no kind's
past : (code : ℕ) → 20 ≤ code → kind_at code ≡ none
unfolding kind_at find
past code h =
    let off : (i : ℕ) → i < 20 → eqb i code ≡ false = λ i l. ne_eqb i code (λ e. absurd (omega (arith, l, e, h))) in
    rw (
      off 0 (omega arith),
      off 1 (omega arith),
      off 2 (omega arith),
      off 3 (omega arith),
      off 4 (omega arith),
      off 5 (omega arith),
      off 6 (omega arith),
      off 7 (omega arith),
      off 8 (omega arith),
      off 9 (omega arith),
      off 10 (omega arith),
      off 11 (omega arith),
      off 12 (omega arith),
      off 13 (omega arith),
      off 14 (omega arith),
      off 15 (omega arith),
      off 16 (omega arith),
      off 17 (omega arith),
      off 18 (omega arith),
      off 19 (omega arith),
    )

module _ (w : WriterState) where
  by_kind : 4 ≤ w.turn → (k : Option Kind) → turn_of w k ≡ nowhere
  by_kind h none = refl
  by_kind h (some k) = rw (ne_eqb w.turn 1 (λ e. absurd (omega (arith, e, h))), ne_eqb w.turn 2 (λ e. absurd (omega (arith, e, h))))

  no-turn : Unmeant w → turn_at w ≡ nowhere
  unfolding turn_at
  no-turn (inl h) =
      rw (ne_eqb w.turn 0 (λ e. absurd (omega (arith, e, h))), ne_eqb w.turn 3 (λ e. absurd (omega (arith, e, h)))) (by_kind h (kind_at w.kind))
  no-turn (inr (inl e, h)) = rw (e, past w.kind h)
  no-turn (inr (inr e, h)) = rw (e, past w.kind h)

pub refuses : Refuses
unfolding apply
refuses c w o u = rw (no-turn w u, never c)
