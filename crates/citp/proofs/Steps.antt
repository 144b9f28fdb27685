-- The step, by what its parts tell: the rest of the stream, the base header, the packet cut out of it.
use Prim.Native.Nat.{ℕ, zero, suc, ◌+◌, ◌-◌, ◌≤◌, ◌<◌}
use mathlib.Core.Path.{◌≡◌, refl, sym, ap, ◌∙◌}
use mathlib.Core.List.{List}
use native.Mathlib.Omega.{arith}
use borrow.Author.Tests.{ne_eqb, lt-ltb, le-ltb}
use lib.ListN.{length, take, drop, length-drop, drop_of_length-le}
use lib.Seq.{take_all}
use Rattle.format.specs.Format.{Value, Read, got, refused, decode}
use Rattle.format.specs.View.{View, Seen, seen, missed, view, placed, place}
use Rattle.format.specs.Walk.{stop, report}
use Rattle.protocol.specs.Layer.{header, request_field, size_field}
use Rattle.protocol.specs.Step.{Content, content_at, start_number, started, step_rest, step_at}
use Rattle.protocol.proofs.Found.{header-within}
use Rattle.format.proofs.Passing.{Own, own-bytes}
use Rattle.std.specs.Prelude.{Result, Ok, Err, IsOk}
use Rattle.refusal.specs.declared.Refusal.{Refusal}
use Rattle.wire.specs.declared.Cursor.{Cursor}
use Rattle.wire.specs.Says.{says}
use Rattle.header.specs.Says.{header_value}
use Rattle.header.specs.declared.Header.{Header}

abbrev value_in : Value header → Seen (View header) → Value header
value_in d (seen v e) = v
value_in d (missed k) = d

-- ---- the step at an offset

module _ (s : List ℕ) (at : ℕ) where
  -- what is left of the stream
  abbrev left : List ℕ
  left = take (length s - at) (drop at s)

  left_is : left ≡ drop at s
  left_is = take_all (length s - at) (drop at s) (omega (arith, length-drop at s))

  pub step_end : length s ≤ at → stop 0 at ≡ step_at s at
  unfolding step_at
  step_end h = rw (drop_of_length-le s h)

  some_left : at < length s → length (drop at s) ≡ 0 → ⊥
  some_left h e = absurd (omega (arith, length-drop at s))

  pub step-short : at < length s → length left < 20 → stop 1 at ≡ step_at s at
  unfolding step_at
  step-short l h = rw (ne_eqb (length (drop at s)) 0 (some_left l), lt-ltb (length (drop at s)) 20 (rw left_is at h)) refl

  -- 20 bytes are a header
  pub header-there : 20 ≤ length left → (r : Result (Header × Cursor) Refusal) → says header_value r ≡ view header left 0 → IsOk r
  header-there h r e = go r (e ∙ own.whole)
    where
      own : Own header left 0
      own = own-bytes header (tt, (tt, (tt, (tt, (tt, (tt, (tt, tt))))))) left 0 h

      go : (r : Result (Header × Cursor) Refusal) → says header_value r ≡ seen own.fields 20 → IsOk r
      go (Ok x) q = refl
      go (Err k) q = cc

  begins : {h : Value header} {e : ℕ} → view header left 0 ≡ seen h e → step_at s at ≡ started at (drop at s) h (start_number h (length (drop at s)))
  unfolding step_at view placed place
  begins {h} {e} q = by (decode header (drop at s)) refl (rw left_is at q)
    where
      by : (r : Read (Value header)) → decode header (drop at s) ≡ r → placed header 0 r ≡ seen h e
          → step_rest at (drop at s) ≡ started at (drop at s) h (start_number h (length (drop at s)))
      by (got v t) d q =
          let same : v ≡ h = ap (value_in h) q in
          let long : 20 ≤ length (drop at s) = header-within v (drop at s) t d in
          rw (ne_eqb (length (drop at s)) 0 (omega arith), le-ltb (length (drop at s)) 20 long, d, same)
      by (refused n) d q = cc

  pub step-stopped : {h : Value header} {e n : ℕ} → view header left 0 ≡ seen h e → n ≡ start_number h (length left) → (n ≡ 0 → ⊥) → stop n at ≡ step_at s at
  step-stopped {h} {e} {n} q m z = on n z ∙ ap (started at (drop at s) h) (m ∙ ap (λ (x : List ℕ). start_number h (length x)) left_is) ∙ sym (begins q)
    where
      on : (n : ℕ) → (n ≡ 0 → ⊥) → stop n at ≡ started at (drop at s) h n
      on zero z = absurd (z refl)
      on (suc n) z = refl

  pub step-packet : {h : Value header} {e n next : ℕ} {p : List ℕ} {x : Content View} → view header left 0 ≡ seen h e → n ≡ start_number h (length left) → n ≡ 0
      → next ≡ at + size_field h → p ≡ take (size_field h) left → x ≡ content_at at h p
      → report (record { offset = at; size = size_field h; request = request_field h; content = x }) next ≡ step_at s at
  step-packet {h} {e} {n} {next} {p} {x} q m z f c is =
      let may : start_number h (length (drop at s)) ≡ 0 = sym (ap (λ (r : List ℕ). start_number h (length r)) left_is) ∙ sym m ∙ z in
      let held : x ≡ content_at at h (take (size_field h) (drop at s)) = is ∙ rw (c, left_is) refl in
      rw (held, f) (sym (begins q ∙ ap (started at (drop at s) h) may))
