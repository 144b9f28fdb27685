-- What a step does: it stops at its own offset with 0 to 5, or reports the packet that stands there, whole.
use Prim.Native.Nat.{ℕ, zero, suc, ◌+◌, ◌≤◌, ◌<◌}
use mathlib.Core.Path.{◌≡◌, refl}
use mathlib.Core.Bool.{Bool, true, false, not, ◌||◌}
use mathlib.Core.List.{List}
use native.Mathlib.Omega.{arith}
use borrow.Author.Tests.{eqb-true, eq-eqb, ltb-false, le-ltb, not-false}
use lib.ListN.{length, take, drop, length-drop}
use lib.Dec.{ltb, eqb}
use Rattle.format.specs.Format.{Value, Read, got, refused, pick, decode}
use Rattle.format.proofs.Bools.{neither}
use Rattle.format.specs.View.{View}
use Rattle.format.specs.Walk.{Step, stop, report}
use Rattle.format.specs.Fault.{limit}
use Rattle.protocol.specs.Layer.{header, citp, cookie_field, major_field, size_field}
use Rattle.protocol.specs.Step.{Report, content_at, cut, start_number, started, headed, step_at}

-- ---- the start of a packet

-- the base header of a packet that may start where so many bytes are left
pub record Starts (h : Value header) (left : ℕ) : Type 0 where
  pub cookie-is : cookie_field h ≡ citp
  pub major-is : major_field h ≡ 1
  pub least : 20 ≤ size_field h
  pub most : size_field h ≤ limit
  pub within : size_field h ≤ left

-- the number of a row, or 0 where a packet may start
data Numbered (h : Value header) (left : ℕ) : ℕ → Type 0 where
  row : {n : ℕ} → 0 < n → n ≤ 5 → Numbered h left n
  none : Starts h left → Numbered h left 0

numbered-pick : {h : Value header} {left m : ℕ} (b : Bool) (n : ℕ) → 0 < n → n ≤ 5 → (b ≡ false → Numbered h left m) → Numbered h left (pick b n m)
numbered-pick true n l u k = row l u
numbered-pick false n l u k = k refl

numbered : (h : Value header) (left : ℕ) → Numbered h left (start_number h left)
numbered h left =
    numbered-pick (not (eqb (cookie_field h) citp)) 2 (omega arith) (omega arith) λ c.
    numbered-pick (not (eqb (major_field h) 1)) 3 (omega arith) (omega arith) λ m.
    numbered-pick (ltb (size_field h) 20 || ltb limit (size_field h)) 4 (omega arith) (omega arith) λ z.
    numbered-pick (ltb left (size_field h)) 5 (omega arith) (omega arith) λ l.
    let sizes = neither (ltb (size_field h) 20) (ltb limit (size_field h)) z in
    none (record {
      cookie-is = eqb-true (cookie_field h) citp (not-false (eqb (cookie_field h) citp) c);
      major-is = eqb-true (major_field h) 1 (not-false (eqb (major_field h) 1) m);
      least = ltb-false (size_field h) 20 sizes.0;
      most = ltb-false limit (size_field h) sizes.1;
      within = ltb-false left (size_field h) l;
    })

-- a packet may start exactly where its number is 0
pub starts : (h : Value header) (left : ℕ) → start_number h left ≡ 0 → Starts h left
starts h left e = by (rw e at (numbered h left))
  where
    by : Numbered h left 0 → Starts h left
    by (row l u) = absurd (omega arith)
    by (none s) = s

pub start-zero : {h : Value header} {left : ℕ} → Starts h left → start_number h left ≡ 0
start-zero {h} {left} s =
    rw (
      eq-eqb (cookie_field h) citp s.cookie-is,
      eq-eqb (major_field h) 1 s.major-is,
      le-ltb (size_field h) 20 s.least,
      le-ltb limit (size_field h) s.most,
      le-ltb left (size_field h) s.within,
    )

-- ---- the step

-- it stops with 0 to 5, with 0 only where nothing is left; or reports the packet of the base header with which the rest starts
pub data Does (at : ℕ) (rest : List ℕ) : Step (Report View) → Type 0 where
  halts : {n : ℕ} → n ≤ 5 → (n ≡ 0 → length rest ≡ 0) → Does at rest (stop n at)
  tells : {h : Value header} {t : List ℕ} → decode header rest ≡ got h t → Starts h (length rest) → Does at rest (cut at rest h)

does-started : (at : ℕ) (rest : List ℕ) {h : Value header} {t : List ℕ} {n : ℕ} → decode header rest ≡ got h t → Numbered h (length rest) n
    → Does at rest (started at rest h n)
does-started at rest {n = zero} e (row l u) = absurd (omega arith)
does-started at rest {n = suc n} e (row l u) = halts u (λ z. absurd (omega arith))
does-started at rest e (none s) = tells e s

does-headed : (at : ℕ) (rest : List ℕ) (x : Read (Value header)) → decode header rest ≡ x → Does at rest (headed at rest x)
does-headed at rest (refused n) e = halts {n = 1} (omega arith) (λ z. absurd (omega arith))
does-headed at rest (got h t) e = does-started at rest e (numbered h (length rest))

does-pick : {at : ℕ} {rest : List ℕ} (b : Bool) {x y : Step (Report View)} → (b ≡ true → Does at rest x) → (b ≡ false → Does at rest y)
    → Does at rest (pick b x y)
does-pick true h k = h refl
does-pick false h k = k refl

pub step-does : (s : List ℕ) (at : ℕ) → Does at (drop at s) (step_at s at)
unfolding step_at
step-does s at =
    let rest = drop at s in
    does-pick (eqb (length rest) 0) (λ e. halts {n = 0} (omega arith) (λ _. eqb-true (length rest) 0 e)) λ _.
    does-pick (ltb (length rest) 20) (λ _. halts {n = 1} (omega arith) (λ z. absurd (omega arith))) λ _.
    does-headed at rest (decode header rest) refl

-- ---- what a step that stopped, or reported, has found

does-stop : {at n o : ℕ} {rest : List ℕ} → Does at rest (stop n o) → (n ≤ 5) × (o ≡ at)
does-stop (halts l z) = (l, refl)

pub stopped : (s : List ℕ) (at : ℕ) {n o : ℕ} → step_at s at ≡ stop n o → (n ≤ 5) × (o ≡ at)
stopped s at e = does-stop (rw e at (step-does s at))

pub record Reported (at : ℕ) (rest : List ℕ) (r : Report View) (next : ℕ) : Type 0 where
  pub base : Value header
  pub behind : List ℕ
  pub reads-base : decode header rest ≡ got base behind
  pub starts_with : Starts base (length rest)
  pub next-is : next ≡ at + size_field base
  pub holds : r.content ≡ content_at at base (take (size_field base) rest)

does-report : {at next : ℕ} {rest : List ℕ} {r : Report View} → Does at rest (report r next) → Reported at rest r next
does-report (tells {h} {t} e s) = record { base = h; behind = t; reads-base = e; starts_with = s; next-is = refl; holds = refl }

pub reported : (s : List ℕ) (at : ℕ) {r : Report View} {next : ℕ} → step_at s at ≡ report r next → Reported at (drop at s) r next
reported s at e = does-report (rw e at (step-does s at))

-- a report is that of the packet at its offset, and the next packet stands 20 bytes behind it at least, within the stream
pub record Moved (s : List ℕ) (at : ℕ) (r : Report View) (next : ℕ) : Type 0 where
  pub starts : r.offset ≡ at
  pub on : at + 20 ≤ next
  pub within : next ≤ length s

does-start : {at next : ℕ} {rest : List ℕ} {r : Report View} → Does at rest (report r next) → r.offset ≡ at
does-start (tells e s) = refl

pub moved : (s : List ℕ) (at : ℕ) {r : Report View} {next : ℕ} → step_at s at ≡ report r next → Moved s at r next
moved s at e =
    let f = reported s at e in
    record {
      starts = does-start (rw e at (step-does s at));
      on = omega (arith, f.next-is, f.starts_with.least);
      within = omega (arith, f.next-is, f.starts_with.least, f.starts_with.within, length-drop at s);
    }
