-- What the views of a channel block and of a channel list stand for: a block's levels are the bytes of its range, a list's records what
-- its cursor steps through, and all of them stand in the body. And how both are refused.
use Prim.Native.Nat.{ℕ, ◌+◌, ◌*◌, ◌≤◌}
use mathlib.Core.Path.{◌≡◌, refl, ap}
use mathlib.Core.List.{List, [], ◌∷◌, map}
use native.Mathlib.Omega.{arith}
use lib.ListN.{length, take, drop}
use Rattle.format.specs.Format.{number, Value, got, decode, total, size}
use Rattle.format.specs.View.{View, seen, view, place, steps, look}
use Rattle.format.proofs.Reading.{given}
use Rattle.format.proofs.Width.{decode-behind}
use Rattle.format.proofs.Look.{sees}
use Rattle.format.proofs.Passing.{Own, own-bytes, block-steps, total-width}
use Rattle.format.proofs.Refusal.{Refuses, decode-refuses}
use Rattle.protocol.specs.Kind.{ChBk, ChLs, body_of, channel_level_format}

pub block-value : (s : List ℕ) {blind universe first start len e : ℕ} → view (body_of ChBk) s 0 ≡ seen (blind, (universe, (first, (start, len)))) e
    → decode (body_of ChBk) s ≡ got (blind, (universe, (first, take len (drop start s)))) (drop e s)
unfolding look place size
block-value s {start = start} {len = len} h =
    let p = sees (body_of ChBk) s 0 h in
    let levels : List ℕ = map (look (number 1) s) (steps (number 1) len s start len) in
    let a : 0 + 1 + 1 + 2 + 2 ≡ start = ap (λ (v : View (body_of ChBk)). v.1.1.1.0) p.stands in
    let b : length levels ≡ len = ap (λ (v : View (body_of ChBk)). v.1.1.1.1) p.stands in
    let w : total (size (number 1)) levels ≡ length levels * 1 = total-width (number 1) tt levels in
    let l : start + len ≤ length s = omega (arith, (given (decode-behind (body_of ChBk) s) p.reads).within) in
    rw (block-steps s len start l) at p.reads

records-found : (s : List ℕ) (xs : List (View channel_level_format)) → map (look channel_level_format s) xs ≡ xs
unfolding look
records-found s [] = refl
records-found s (x ∷ xs) = ap (x ∷◌) (records-found s xs)

pub list-value : (s : List ℕ) {from n e : ℕ} → view (body_of ChLs) s 0 ≡ seen (from, n) e
    → (from + n * 4 ≤ length s) × (decode (body_of ChLs) s ≡ got (steps channel_level_format n s from n) (drop e s))
unfolding look place size
list-value s {from} {n} {e} h =
    let p = sees (body_of ChLs) s 0 h in
    let records : List (Value channel_level_format) = map (look channel_level_format s) (steps channel_level_format n s from n) in
    let a : 0 + 2 ≡ from = ap (λ (v : View (body_of ChLs)). v.0) p.stands in
    let b : length records ≡ n = ap (λ (v : View (body_of ChLs)). v.1) p.stands in
    let w : total (size channel_level_format) records ≡ length records * 4 = total-width channel_level_format (tt, (tt, tt)) records in (
      omega (arith, (given (decode-behind (body_of ChLs) s) p.reads).within),
      rw (records-found s (steps channel_level_format n s from n)) at p.reads,
    )

-- a record is read out of its own four bytes
pub record-own : (s : List ℕ) (at : ℕ) → at + 4 ≤ length s → Own channel_level_format s at
record-own s at h = own-bytes channel_level_format (tt, (tt, tt)) s at h

-- neither is refused with a number other than 7
pub levels-refuse : (P : ℕ → Type 0) → P 7 → (s : List ℕ) → Refuses P (decode (body_of ChBk) s) × Refuses P (decode (body_of ChLs) s)
levels-refuse P h s = (
  decode-refuses P (body_of ChBk) (h, (h, (h, (h, (h, tt))))) s,
  decode-refuses P (body_of ChLs) (h, (h, (h, (h, tt)))) s,
)
