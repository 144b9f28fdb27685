-- On every slice the walk ends; and every refusal has a number of the table for its place.
use Prim.Native.Nat.{ℕ, ◌+◌, ◌-◌, ◌≤◌, ◌<◌}
use mathlib.Core.Path.{◌≡◌, refl}
use mathlib.Core.Bool.{Bool, true, false, ◌||◌}
use mathlib.Core.List.{List}
use mathlib.Core.Option.{Option, none, some}
use native.Mathlib.Omega.{arith}
use lib.ListN.{length, take, drop}
use lib.Dec.{ltb}
use Rattle.format.specs.Format.{Value, Read, got, refused, pick, decode}
use Rattle.format.specs.Fault.{any}
use Rattle.format.specs.Refusals.{refusals, is_one_of}
use Rattle.format.specs.View.{View, view, placed}
use Rattle.format.specs.Walk.{Step}
use Rattle.format.proofs.Walks.{Steps, stops, goes, walk_ends}
use Rattle.format.proofs.Copies.{cstring-copies, ucs2-copies, numbers-copies}
use Rattle.format.proofs.Refusal.{Refuses, reads, refuses, refused-with, decode-refuses, decode-number}
use Rattle.protocol.specs.Layer.{Layer, header_length, layer_of, header, layer_header, size_field, count_field, part_field, layer_field}
use Rattle.protocol.specs.Kind.{Kind, body_of, kind_of}
use Rattle.protocol.proofs.Every.{every, every-all, every-kind}
use Rattle.protocol.specs.Step.{Content, message, unknown, fragment, refusal, Report, body_seen, body_as, read_body, content_of, read_layer_header, read_layer}
use Rattle.protocol.specs.Step.{content_at, step_at, walk}
use Rattle.protocol.proofs.Steps.{Does, halts, tells, step-does, stopped, reported}
use Rattle.writing.proofs.Taken.{call-numbers as one-call}
use Rattle.stream.specs.Claims as claims
use Rattle.stream.specs.Claims.{packet_refusals}

-- ---- bodies

pub body-numbers : claims.BodyNumbers
body-numbers k s n e = refused-with (decode-number (body_of k) s) e

-- ---- the step

-- a refused packet's number is 6 to 10 or 19
abbrev Row : Content View → Type 0
Row (message k start hint v added) = Unit {0}
Row (unknown c t) = Unit {0}
Row (fragment p n) = Unit {0}
Row (refusal n) = is_one_of packet_refusals n ≡ true

body-row : (k : Kind) (s : List ℕ) → Refuses (λ n. is_one_of packet_refusals n ≡ true) (decode (body_of k) s)
unfolding every any
body-row k s =
    decode-refuses (λ n. is_one_of packet_refusals n ≡ true) (body_of k)
    (every-all (is_one_of packet_refusals) (refusals (body_of k)) (every-kind (λ j. every (is_one_of packet_refusals) (refusals (body_of j))) refl k)) s

row-pick : (b : Bool) (x y : Content View) → Row x → Row y → Row (pick b x y)
row-pick true x y h k = h
row-pick false x y h k = k

row_seen : (l : Layer) (start extent type hint : ℕ) (k : Kind) (r : Read (Value (body_of k))) → Refuses (λ n. is_one_of packet_refusals n ≡ true) r
    → Row (content_of l start extent type hint (body_seen k (placed (body_of k) 0 r)))
unfolding placed
row_seen l start extent type hint k r reads = tt
row_seen l start extent type hint k r (refuses h) = h

row-body : (l : Layer) (start extent type hint : ℕ) (s : List ℕ) (x : Option Kind) → Row (content_of l start extent type hint (body_as x s))
unfolding view
row-body l start extent type hint s none = tt
row-body l start extent type hint s (some k) =
    row_seen l start extent type hint k (decode (body_of k) (drop 0 s)) (body-row k (drop 0 s))

row-header : (l : Layer) (at : ℕ) (p : List ℕ) (x : Read (Value (layer_header l))) → Row (read_layer_header l at p x)
unfolding read_body any
row-header l at p (got t rest) = row-body l (at + header_length l) (length p - header_length l) t.0 t.1 (drop (header_length l) p) (kind_of l t.0)
row-header l at p (refused n) = refl

row-layer : (at c : ℕ) (p : List ℕ) (x : Option Layer) → Row (read_layer at c p x)
unfolding any
row-layer at c p none = tt
row-layer at c p (some l) =
    row-pick (ltb (length p) (header_length l)) (refusal 6) (read_layer_header l at p (decode (layer_header l) (drop 20 p))) refl
    (row-header l at p (decode (layer_header l) (drop 20 p)))

row-content : (at : ℕ) (h : Value header) (p : List ℕ) → Row (content_at at h p)
unfolding content_at
row-content at h p =
    row-pick (ltb 1 (count_field h) || ltb 0 (part_field h)) (fragment (part_field h) (count_field h)) (read_layer at (layer_field h) p (layer_of (layer_field h))) tt
    (row-layer at (layer_field h) p (layer_of (layer_field h)))

pub step-numbers : claims.StepNumbers
step-numbers s at = (
  λ n o e. stopped s at e,
  λ r next n e c.
      let f = reported s at e in
      let h : Row r.content = rw f.holds (row-content at f.base (take (size_field f.base) (drop at s))) in
      rw c at h,
)

-- ---- the walk

as-steps : {at : ℕ} {rest : List ℕ} {x : Step (Report View)} → Does at rest x → Steps (λ n. n ≤ 5) (λ (r : Report View). r.size) at (length rest) x
as-steps (halts l z) = stops l z
as-steps (tells {h} e s) = let full : 0 < size_field h = omega (arith, s.least) in goes full s.within

pub ends : claims.Ends
unfolding walk
ends s = walk_ends step_at (λ n. n ≤ 5) (λ (r : Report View). r.size) (λ s at. as-steps (step-does s at)) s

-- ---- the writer

pub call-numbers : claims.CallNumbers
call-numbers c w o = one-call c w o

-- ---- copies

pub copy-numbers : claims.CopyNumbers
copy-numbers s at out = (cstring-copies s at out, ucs2-copies s at out, λ w n. numbers-copies w s at n out)

-- ---- all of them

pub numbers : claims.Numbers
numbers = (body-numbers, step-numbers, call-numbers, copy-numbers)
