-- The widths of the state's plain fields: what is given fits them, every call leaves what fits, and what fits is kept.
use Prim.Native.Nat.{ℕ, ◌%◌, ◌<◌}
use mathlib.Core.Path.{◌≡◌, refl}
use mathlib.Core.Bool.{Bool, true, false}
use mathlib.Core.List.{List}
use mathlib.Core.Option.{Option, none, some}
use native.Mathlib.Omega.{arith}
use borrow.Author.Tests.{leb-false}
use lib.Dec.{eqb}
use Rattle.format.specs.Format.{pick}
use Rattle.format.specs.Fault.{too_long}
use Rattle.protocol.specs.Kind.{Kind}
use Rattle.writing.specs.Call.{Call, opens, give, closes, layout_of, layout_long, too_long_in}
use Rattle.writing.specs.Call.{Part, body, laser_feed_list, feed_name, laser_feed_frame, laser_point, fixture_list, fixture, identifier, fixture_data}
use Rattle.writing.specs.Writer.{Turn, idle, body_due, items_due, parts_due, left, identifiers_left, next_part, next_turn, Writer, Outcome, settled}
use Rattle.writing.proofs.Taken.{Taken, call-cases}
use Rattle.plain.specs.State.{kind_at, turn_of, turn_at, state_is, flat_turn, settled_with}
use Rattle.plain.specs.Claims.{Fits, Given, Stays, Exact, Follows}
use Rattle.plain.specs.declared.state.WriterState.{WriterState}
use Rattle.plain.proofs.Calls.{kind-found}

-- ---- what is given

abbrev Few : Turn → Type 0
Few t = (left t < 65536) × (identifiers_left t < 256)

few-pick : (b : Bool) (t u : Turn) → Few t → Few u → Few (pick b t u)
few-pick true t u f g = f
few-pick false t u f g = g

module _ (w : WriterState) (n : w.items < 65536) (i : w.identifiers < 256) where
  few-of : (k : Option Kind) → Few (turn_of w k)
  few-of none = omega arith
  few-of (some k) = few-pick (eqb w.turn 1) _ _ (omega arith) (few-pick (eqb w.turn 2) _ _ (omega (arith, n)) (omega arith))

  few-at : Few (turn_at w)
  unfolding turn_at
  few-at = few-pick (eqb w.turn 0) _ _ (omega arith) (few-pick (eqb w.turn 3) _ _ (n, i) (few-of (kind_at w.kind)))

pub given : Given
given w (n, i, at) =
    let f = few-at w n i in
    (f.0, f.1, at)

-- ---- a call

-- a count that its field holds, or one less than before
part-few : (p : Part) (t : Turn) → layout_long (layout_of p) ≡ false → Few t → Few (next_part p t)
unfolding too_long
part-few (body k v) t e f = omega arith
part-few (laser_feed_list key count) t e f = omega (arith, leb-false 256 count e)
part-few (feed_name name) t e f = omega (arith, f)
part-few (laser_feed_frame key feed sequence count) t e f = omega (arith, leb-false 65536 count e)
part-few (laser_point v) t e f = omega (arith, f)
part-few (fixture_list type count) t e f = omega (arith, leb-false 65536 count e)
part-few (fixture v count) t e f = omega (arith, f, leb-false 256 count e)
part-few (identifier v) t e f = omega (arith, f)
part-few (fixture_data v) t e f = omega (arith, f)

call-few : (c : Call) (t : Turn) → too_long_in c ≡ false → Few t → Few (next_turn c t)
call-few (opens k request hint) t e f = omega arith
call-few (give p) t e f = part-few p t e f
call-few closes t e f = omega arith

taken-fits : (c : Call) (w : Writer) (o : List ℕ) → Fits w → Taken c w o → Fits (settled 0 c w o).writer
taken-fits c w o fit t =
    let f = call-few c w.turn t.not-long (fit.0, fit.1) in
    (f.0, f.1, omega (arith, t.within))

pub stays : Stays
stays c w o fit = call-cases (λ (r : Outcome). Fits r.writer) c w o (λ n. fit) (taken-fits c w o fit)

-- ---- there and back

same_turn : (t : Turn) (at : ℕ) → Few t → turn_at (flat_turn t at) ≡ t
unfolding turn_at
same_turn idle at f = refl
same_turn (body_due k) at f = rw (kind-found k)
same_turn (items_due k n) at f =
    let e : n % 65536 ≡ n = omega (arith, f) in
    rw (kind-found k, e)
same_turn (parts_due n i) at f =
    let e : n % 65536 ≡ n = omega (arith, f) in
    let d : i % 256 ≡ i = omega (arith, f) in
    rw (e, d)

same_place : (t : Turn) (at : ℕ) → (flat_turn t at).at ≡ at
same_place idle at = refl
same_place (body_due k) at = refl
same_place (items_due k n) at = refl
same_place (parts_due n i) at = refl

pub exact : Exact
exact w fit =
    let e : w.at % 4294967296 ≡ w.at = omega (arith, fit) in
    rw (e, same_turn w.turn w.at (fit.0, fit.1), same_place w.turn w.at)

pub follows : Follows
follows c w o h =
    let v = state_is w in
    call-cases (λ (r : Outcome). state_is (settled_with w r.number r.writer).writer ≡ r.writer) c v o (λ n. refl)
    (λ t. exact (settled 0 c v o).writer (taken-fits c v o (given w h) t))
