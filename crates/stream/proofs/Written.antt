-- Whatever calls were made before, refused ones included: a taken close leaves the packet of the message that the taken calls since the open gave.
use Prim.Native.Nat.{ℕ, ◌+◌, ◌≤◌}
use mathlib.Core.Path.{◌≡◌, refl, sym, ap, ◌∙◌, subst}
use mathlib.Core.Bool.{true, false, false≢true, true≢false}
use mathlib.Core.List.{List, [], ◌∷◌, ◌++◌, append_assoc, append-nil}
use native.Mathlib.Omega.{arith}
use native.Mathlib.Nat.{suc-ne-zero}
use lib.ListN.{length, take, drop, length-append, take-append-drop}
use lib.Seq.{sets, sets-eq, length-sets, length-take-le, take_at}
use Rattle.format.specs.Format.{number, encode, concat_map, All}
use Rattle.format.specs.Fault.{limit}
use Rattle.format.proofs.Width.{size-is-length}
use Rattle.format.proofs.Lists.{concat_map-append, concat_map-map, all_append, all_map}
use Rattle.protocol.specs.Kind.{body_of}
use Rattle.protocol.specs.Message.{Message, headers_of, packet_size, packet, Sendable}
use Rattle.protocol.proofs.Headers.{length-headers, size-stored, size-read}
use Rattle.writing.specs.Call.{Call, opens, give, closes, Typed, bytes_of, zero_in, over_limit_in, too_long_in, part_bytes, parts_of, calls_of}
use Rattle.writing.specs.Writer.{Turn, idle, body_due, items_due, parts_due, is_idle, is_close, Writer, Outcome, Progress, noted, note, step, run, settled}
use Rattle.writing.proofs.Taken.{Taken, call-cases}
use Rattle.stream.specs.Accepted.{after, closing, size_in, closed_bytes}
use Rattle.stream.specs.Claims as claims
use Rattle.writing.proofs.Parts.{FinePart, parts-bytes, parts-valid}
use Rattle.writing.proofs.Shape.{Shape, opened, shape-kept, part-not-idle, close-gave}

-- ---- bytes that stand first in the output

pub record Stands (at : ℕ) (o xs : List ℕ) : Type 0 where
  pub long : at ≡ length xs
  pub room : at ≤ length o
  pub first : take at o ≡ xs

stand-none : (o : List ℕ) → Stands 0 o []
stand-none o = record { long = refl; room = omega arith; first = refl }

stand-more : {at : ℕ} {o xs : List ℕ} (bs : List ℕ) → Stands at o xs → at + length bs ≤ length o → Stands (at + length bs) (sets o at bs) (xs ++ bs)
stand-more {at} {o} {xs} bs s h = record {
  long = omega (arith, length-append xs bs, s.long);
  room = omega (arith, length-sets o at bs);
  first = ap (take (at + length bs)) (sets-eq bs o at h)
      ∙ take_at (take at o ++ bs) (drop (at + length bs) o) (at + length bs)
      (length-append (take at o) bs ∙ ap (λ (k : ℕ). k + length bs) (length-take-le at o s.room))
      ∙ ap (λ (l : List ℕ). l ++ bs) s.first;
}

stand-as : {at : ℕ} {o xs ys : List ℕ} → Stands at o xs → xs ≡ ys → Stands at o ys
stand-as {at} {o} s e = subst (Stands at o) e s

-- ---- what holds of an open state, its output and the taken calls

-- refused neither 11 nor 19 nor 12, of the types promised
abbrev pub Fine : Call → Type 0
Fine c = Typed c × (zero_in c ≡ false) × (over_limit_in c ≡ false) × (too_long_in c ≡ false)

-- the bytes of the taken calls stand first, each call was fine, and they are those of whose turn it is
pub record Inv (w : Writer) (o : List ℕ) (cs : List Call) : Type 0 where
  pub stands : Stands w.at o (concat_map bytes_of cs)
  pub fine : All Fine cs
  pub shape : Shape w.turn cs

abbrev pub Holds : Writer → List ℕ → List Call → Type 0
Holds w o cs = is_idle w.turn ≡ false → Inv w o cs

one_more : (cs : List Call) (c : Call) → concat_map bytes_of cs ++ bytes_of c ≡ concat_map bytes_of (cs ++ (c ∷ []))
unfolding concat_map
one_more cs c = ap (λ (t : List ℕ). concat_map bytes_of cs ++ t) (sym (append-nil (bytes_of c))) ∙ sym (concat_map-append bytes_of cs (c ∷ []))

taken-kept : (c : Call) (w : Writer) (o : List ℕ) (cs : List Call) → Typed c → Holds w o cs → Taken c w o
    → Holds (settled 0 c w o).writer (settled 0 c w o).output (noted c cs)
unfolding concat_map
taken-kept (opens k r q) w o cs ty h t z = record {
  stands = stand-as (stand-more (bytes_of (opens k r q)) (stand-none o) t.has_room) (sym (append-nil (bytes_of (opens k r q))));
  fine = ((ty, refl, refl, refl), tt);
  shape = opened r q refl;
}
taken-kept (give p) w o cs ty h t z =
    let i = h (part-not-idle p w.turn t.in-turn) in
    record {
      stands = stand-as (stand-more (part_bytes p) i.stands t.has_room) (one_more cs (give p));
      fine = all_append Fine cs (give p ∷ []) i.fine ((ty, t.no_zero, t.not-over, t.not-long), tt);
      shape = shape-kept p w.turn cs t.in-turn i.shape;
    }
taken-kept closes w o cs ty h t z = absurd (true≢false z)

step_kept : (c : Call) (s : Progress) → Typed c → Holds s.writer s.output s.taken
    → Holds (step c s).writer (step c s).output (step c s).taken
unfolding step
step_kept c s ty h =
    call-cases (λ (r : Outcome). Holds r.writer r.output (note r.number c s.taken)) c s.writer s.output
    (λ n. h) (λ t. taken-kept c s.writer s.output s.taken ty h t)

run-kept : (cs : List Call) (s : Progress) → All Typed cs → Holds s.writer s.output s.taken
    → Holds (run cs s).writer (run cs s).output (run cs s).taken
unfolding run
run-kept [] s ty h = h
run-kept (c ∷ cs) s ty h = run-kept cs (step c s) ty.1 (step_kept c s ty.0 h)

-- ---- a close that is taken

message-bytes : (m : Message) → concat_map bytes_of (calls_of m) ≡ headers_of m.kind 0 m.request m.hint ++ encode (body_of m.kind) m.value
unfolding concat_map
message-bytes m =
    ap (λ (t : List ℕ). headers_of m.kind 0 m.request m.hint ++ t)
    (concat_map-map bytes_of give (parts_of m.kind m.value) ∙ parts-bytes m.kind m.value)

sealed : (m : Message) {at : ℕ} {o : List ℕ} → Stands at o (headers_of m.kind 0 m.request m.hint ++ encode (body_of m.kind) m.value) → at ≤ limit
    → (packet_size m ≡ at) × (closed_bytes (sets o 8 (encode (number 4) at)) ≡ packet m)
unfolding packet packet_size
sealed m {at} {o} s l =
    let k = m.kind in
    let b = encode (body_of k) m.value in
    let f = headers_of k 0 m.request m.hint in
    let g = headers_of k at m.request m.hint in
    let long : packet_size m ≡ at = rw (size-is-length (body_of k) m.value) (omega (arith, s.long, length-append f b, length-headers k 0 m.request m.hint)) in
    let split : o ≡ f ++ (b ++ drop at o) = sym (take-append-drop at o) ∙ ap (λ (x : List ℕ). x ++ drop at o) s.first ∙ append_assoc f b (drop at o) in
    let filled : sets o 8 (encode (number 4) at) ≡ g ++ (b ++ drop at o) =
    ap (λ (x : List ℕ). sets x 8 (encode (number 4) at)) split ∙ size-stored k 0 at m.request m.hint (b ++ drop at o) in
    let says : size_in (g ++ (b ++ drop at o)) ≡ at = rw (size-read k at m.request m.hint (b ++ drop at o) (omega arith)) in
    let whole : length (g ++ b) ≡ at = omega (arith, s.long, length-append f b, length-append g b, length-headers k 0 m.request m.hint, length-headers k at m.request m.hint) in (
      long,
      ap closed_bytes filled ∙ ap (λ (n : ℕ). take n (g ++ (b ++ drop at o))) says
          ∙ ap (take at) (sym (append_assoc g b (drop at o))) ∙ take_at (g ++ b) (drop at o) at whole
          ∙ ap (λ (n : ℕ). headers_of k n m.request m.hint ++ b) (sym long),
    )

-- the message that the taken calls gave, whichever it is: it can be sent, and its packet stands
closed-message : (s : Progress) (m : Message) → Inv s.writer s.output s.taken → s.taken ≡ calls_of m → Taken closes s.writer s.output
    → Sendable m × (closed_bytes (sets s.output 8 (encode (number 4) s.writer.at)) ≡ packet m)
closed-message s m i e t =
    let fine : All Fine (calls_of m) = rw e at i.fine in
    let at-end : s.writer.at ≤ limit = omega (arith, t.within) in
    let stood = stand-as i.stands (ap (concat_map bytes_of) e ∙ message-bytes m) in
    let f = sealed m stood at-end in (
      record {
        request_fits = fine.0.0.0;
        hint-fits = fine.0.0.1;
        valid = parts-valid m.kind m.value (all_map Fine FinePart give (λ p h. h) (parts_of m.kind m.value) fine.1);
        within = rw f.0 at-end;
      },
      f.1,
    )

-- the state before a close that is taken
before-close : (t : Turn) → is_close t ≡ true → is_idle t ≡ false
before-close idle e = absurd (false≢true e)
before-close (body_due k) e = refl
before-close (items_due k n) e = refl
before-close (parts_due n i) e = refl

fresh_holds : (w : Writer) (o : List ℕ) → w.turn ≡ idle → Holds w o []
fresh_holds w o e z = absurd (true≢false (sym (ap is_idle e) ∙ z))

-- a number 0 of close: what it tells, and the output
pub record CloseTaken (s : Progress) : Type 0 where
  pub tells : Taken closes s.writer s.output
  pub leaves : (closing s).output ≡ sets s.output 8 (encode (number 4) s.writer.at)

pub close-taken : (s : Progress) → (closing s).number ≡ 0 → CloseTaken s
close-taken s z =
    let k = call-cases (λ (r : Outcome). r.number ≡ 0 → Taken closes s.writer s.output × (r.output ≡ sets s.output 8 (encode (number 4) s.writer.at)))
    closes s.writer s.output (λ n z. absurd (suc-ne-zero n z)) (λ t z. (t, refl)) in
    record { tells = (k z).0; leaves = (k z).1 }

open-holds : (cs : List Call) (w : Writer) (o : List ℕ) → All Typed cs → w.turn ≡ idle → CloseTaken (after cs w o)
    → Inv (after cs w o).writer (after cs w o).output (after cs w o).taken
open-holds cs w o ty e c =
    run-kept cs (record { writer = w; output = o; taken = [] }) ty (fresh_holds w o e) (before-close (after cs w o).writer.turn c.tells.in-turn)

-- ---- the theorems

pub written : claims.Written
written cs w o ty e z =
    let s = after cs w o in
    let c = close-taken s z in
    let i = open-holds cs w o ty e c in
    let g = close-gave s.writer.turn s.taken c.tells.in-turn i.shape in
    let f = closed-message s g.message i g.gave c.tells in
    record { message = g.message; gave = g.gave; sendable = f.0; stands = ap closed_bytes c.leaves ∙ f.1 }

pub accepted-is : claims.AcceptedIs
accepted-is bytes m a =
    let s = after a.calls a.writer a.output in
    let c = close-taken s a.closed in
    let i = open-holds a.calls a.writer a.output a.typed a.fresh c in
    let f = closed-message s m i a.gave c.tells in
    (f.0, sym a.stands ∙ ap closed_bytes c.leaves ∙ f.1)
