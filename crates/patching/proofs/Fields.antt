-- The fields of an entry's number. Assumes nothing.
use Prim.Native.Nat.{ℕ, ◌+◌, ◌*◌, ◌<◌, ◌≤◌, min, max}
use mathlib.Core.Path.{◌≡◌, refl, ap₂, ◌∙◌}
use mathlib.Core.Bool.{Bool, true, false, ◌&&◌, ◌||◌}
use native.Mathlib.Omega.{arith}
use lib.Dec.{ltb, eqb}
use borrow.Author.Tests.{lt-ltb, le-ltb, ltb-true, ltb-false, eqb-true, eqb-false}
use Rattle.patching.specs.Entry.{Entry, universe, channel, channel_count, identifier, Fields, fields, entry_of, end, shares, before}
use Rattle.patching.proofs.Cases.{same_test, eqb_comm}

-- an entry's number is that of its fields
pub entry_whole : (e : Entry) → entry_of (fields e) ≡ e
unfolding universe channel channel_count identifier
entry_whole e = omega arith

-- numbers of sixteen binary digits each; the universe, highest, may have more
abbrev pub Narrow : Fields → Type 0
Narrow f = (f.0 < 65536) × (f.2 < 65536) × (f.3 < 65536)

pub narrow : (e : Entry) → Narrow (fields e)
unfolding channel channel_count identifier
narrow e = (omega arith, omega arith, omega arith)

-- and has the fields that it was made of
module _ (i u c n : ℕ) (a : i < 65536) (b : c < 65536) (d : n < 65536) where
  identifier-of : identifier (entry_of (i, u, c, n)) ≡ i
  unfolding identifier
  identifier-of = omega arith

  universe-of : universe (entry_of (i, u, c, n)) ≡ u
  unfolding universe
  universe-of = omega arith

  channel-of : channel (entry_of (i, u, c, n)) ≡ c
  unfolding channel
  channel-of = omega arith

  count_of : channel_count (entry_of (i, u, c, n)) ≡ n
  unfolding channel_count
  count_of = omega arith

  four : fields (entry_of (i, u, c, n)) ≡ (i, u, c, n)
  four = ap₂ (λ (x y : ℕ). (x, y, channel (entry_of (i, u, c, n)), channel_count (entry_of (i, u, c, n)))) identifier-of universe-of
      ∙ ap₂ (λ (x y : ℕ). (i, u, x, y)) channel-of count_of

pub fields-of : (f : Fields) → Narrow f → fields (entry_of f) ≡ f
fields-of f h = four f.0 f.1 f.2 f.3 h.0 h.1 h.2

pub channel-lt : (w : Entry) → channel w < 65536
unfolding channel
channel-lt w = omega arith

pub count-lt : (w : Entry) → channel_count w < 65536
unfolding channel_count
count-lt w = omega arith

-- what the code compares: universe and channel in one number
abbrev pub at : Entry → ℕ
at w = universe w * 65536 + channel w

pub before_at : (e x : Entry) → ltb (at e) (at x) ≡ before e x
before_at e x = go (ltb (universe e) (universe x)) refl (eqb (universe e) (universe x)) refl
  where
    go : (a : Bool) → ltb (universe e) (universe x) ≡ a → (b : Bool) → eqb (universe e) (universe x) ≡ b
        → ltb (at e) (at x) ≡ (a || (b && ltb (channel e) (channel x)))
    go true p b q =
        let h : universe e < universe x = ltb-true (universe e) (universe x) p in
        let c : channel e < 65536 = channel-lt e in
        let k : at e < at x = omega arith in
        lt-ltb (at e) (at x) k
    go false p true q =
        let u : universe e ≡ universe x = eqb-true (universe e) (universe x) q in
        same_test (at e) (at x) (channel e) (channel x) (λ h. omega arith) (λ h. omega arith)
    go false p false q =
        let h : universe x ≤ universe e = ltb-false (universe e) (universe x) p in
        let n : universe e ≡ universe x → ⊥ = eqb-false (universe e) (universe x) q in
        let l : universe x < universe e = omega arith in
        let c : channel x < 65536 = channel-lt x in
        let k : at x ≤ at e = omega arith in
        le-ltb (at e) (at x) k

-- it is the same which of two shares with the other
pub shares-comm : (e x : Entry) → shares x e ≡ shares e x
shares-comm e x =
    let a : max (channel x) (channel e) ≡ max (channel e) (channel x) = omega arith in
    let b : min (end x) (end e) ≡ min (end e) (end x) = omega arith in
    ap₂ (λ (s t : Bool). s && t) (eqb_comm (universe x) (universe e)) (ap₂ ltb a b)
