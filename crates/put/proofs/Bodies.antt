-- From the number of a write and the write itself to what a body's writer answers, and back.
use Prim.Native.Nat.{ℕ, zero, suc, ◌+◌}
use mathlib.Core.Path.{◌≡◌, refl, sym, ap, ◌∙◌}
use mathlib.Core.Bool.{Bool, false}
use mathlib.Core.List.{List}
use native.Mathlib.Omega.{arith}
use lib.ListN.{length}
use lib.Dec.{T}
use Rattle.format.specs.Format.{Format, Value, encode, size}
use Rattle.format.specs.Copy.{Answer, took, denied}
use Rattle.refusal.specs.Number.{number as refusal_number}
use Rattle.refusal.specs.declared.Refusal.{Refusal}
use Rattle.refusal.proofs.Exact.{never-none}
use Rattle.format.specs.Fault.{holds_zero, over_limit, too_long, weighed}
use Rattle.format.proofs.Width.{size-is-length}
use Rattle.put.specs.Put.{Writes, capped, Weighs, settled, put_judged}
use Rattle.put.proofs.Writing.{put_whole, put-pair, put-code, put_as, put-numbers, put-cstring, put-ucs2, cstring-pair, ucs2-pair}
use Rattle.put.specs.Faults.{none}
use Rattle.put.specs.declared.Faults.{Faults}
use Rattle.put.proofs.Judging.{Found, faultless, nothing, judging}
use Rattle.put.proofs.Weighing.{weighed-capped, passed}

-- n is a value's size, capped or not
pub record Sized (f : Format) (v : Value f) (n : ℕ) : Type 0 where
  pub sized-as : capped n ≡ capped (length (encode f v))

pub sized : {f : Format} {v : Value f} {n : ℕ} → n ≡ capped (size f v) → Sized f v n
sized {f} {v} e = record { sized-as = rw (← size-is-length f v) (omega arith) }

pub sized-whole : {f : Format} {v : Value f} {n : ℕ} → n ≡ size f v → Sized f v n
sized-whole {f} {v} e = record { sized-as = rw (← size-is-length f v) (omega arith) }

-- n is the number of a write of v
pub record Weighed (n : ℕ) (zeros over long : Bool) (f : Format) (v : Value f) (at : ℕ) (out : List ℕ) : Type 0 where
  pub weighed-as : n ≡ weighed zeros over long (at + length (encode f v)) (length out)

pub weighed-by : {n len at : ℕ} {out : List ℕ} (r : Faults) (zeros over long : Bool) {f : Format} {v : Value f}
    → Weighs n r.zeros r.over r.long at len (length out) → r ≡ record { zeros = zeros; over = over; long = long } → Sized f v len
    → Weighed n zeros over long f v at out
weighed-by {n} {len} {at} {out} r zeros over long {f} {v} w e s = record {
  weighed-as = rw e at w.weighs
      ∙ sym (weighed-capped zeros over long at len (length out))
      ∙ ap (λ (k : ℕ). weighed zeros over long (at + k) (length out)) s.sized-as
      ∙ weighed-capped zeros over long at (length (encode f v)) (length out);
}

-- a body
pub weight : {n len at : ℕ} {out : List ℕ} {r : Faults} {f : Format} {v : Value f}
    → Weighs n r.zeros r.over r.long at len (length out) → Found none f v r → Sized f v len
    → Weighed n (holds_zero f v) (over_limit f v) (too_long f v) f v at out
weight {f = f} {v = v} w j s = weighed-by _ (holds_zero f v) (over_limit f v) (too_long f v) w j.found-as s

-- a body of numbers only
pub weight-faultless : {n len at : ℕ} {out : List ℕ} {f : Format} {v : Value f}
    → Weighs n false false false at len (length out) → T (faultless f) → Sized f v len → Weighed n (holds_zero f v) (over_limit f v) (too_long f v) f v at out
weight-faultless {f = f} {v = v} w h s =
    weighed-by none (holds_zero f v) (over_limit f v) (too_long f v) w (sym (nothing none f v h)) s

-- ---- what a writer answers

settled-refused : (n at : ℕ) (bytes out : List ℕ) → (n ≡ 0 → ⊥) → ◌≡◌ {A = Answer × List ℕ} (denied n, out) (settled n at bytes out)
settled-refused zero at bytes out h = absurd (h refl)
settled-refused (suc n) at bytes out h = refl

pub refused : (r : Refusal) {at : ℕ} {zeros over long : Bool} {f : Format} {v : Value f} {out : List ℕ}
    → Weighed (refusal_number r) zeros over long f v at out → ◌≡◌ {A = Answer × List ℕ} (denied (refusal_number r), out) (put_judged zeros over long f v at out)
unfolding put_judged
refused r {at} {f = f} {v = v} {out = out} w = rw (← w.weighed-as) (settled-refused (refusal_number r) at (encode f v) out (never-none r))

pub taken : {at place : ℕ} {zeros over long : Bool} {f : Format} {v : Value f} {out after : List ℕ}
    → Weighed 0 zeros over long f v at out → Writes f v at out place after → ◌≡◌ {A = Answer × List ℕ} (took place, after) (put_judged zeros over long f v at out)
unfolding put_judged
taken {at} {place} {zeros} {over} {long} {f} {v} {out} {after} w u =
    let none : weighed zeros over long (at + length (encode f v)) (length out) ≡ 0 = sym w.weighed-as in
    let fits = passed zeros over long (at + length (encode f v)) (length out) none in
    rw (none, put_whole u.writes fits.has_room, u.writes.stored) refl

-- what `search` makes the answers of a body's writer from
pub ruleset bodies = (refl, refused, taken, weight, weight-faultless, sized, sized-whole, judging, put-pair, put-code, put_as, put-numbers, put-cstring, put-ucs2, cstring-pair, ucs2-pair)
