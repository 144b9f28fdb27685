-- Laws of one call: what its number tells, and what it leaves.
use Prim.Native.Nat.{ℕ, zero, suc, ◌≤◌}
use mathlib.Core.Path.{◌≡◌, refl}
use mathlib.Core.Bool.{Bool, true, false, ◌&&◌}
use mathlib.Core.Logic.{◌⊎◌, inl, inr}
use mathlib.Core.List.{List}
use native.Mathlib.Nat.{suc-ne-zero}
use borrow.Author.Tests.{ltb-false, le-ltb}
use lib.ListN.{length}
use lib.Dec.{ltb}
use Rattle.format.specs.Format.{pick}
use Rattle.format.specs.Fault.{any, limit}
use Rattle.format.specs.Refusals.{is_one_of}
use Rattle.format.proofs.Bools.{both}
use Rattle.writing.specs.Call.{Call, zero_in, over_limit_in, too_long_in}
use Rattle.writing.specs.Writer.{Writer, Outcome, in_turn, behind_headers, end_of, weigh, settled, number_of, apply, call_refusals}

pick_no : (b : Bool) (n m : ℕ) → pick b (suc n) m ≡ 0 → (b ≡ false) × (m ≡ 0)
pick_no true n m e = absurd (suc-ne-zero n e)
pick_no false n m e = (refl, e)

pick-due : (b : Bool) (n m : ℕ) → pick b m (suc n) ≡ 0 → (b ≡ true) × (m ≡ 0)
pick-due true n m e = (refl, e)
pick-due false n m e = absurd (suc-ne-zero n e)

-- what the number 0 tells
pub record Taken (c : Call) (w : Writer) (o : List ℕ) : Type 0 where
  pub in-turn : in_turn c w.turn ≡ true
  pub behind : behind_headers w.turn w.at ≡ true
  pub no_zero : zero_in c ≡ false
  pub not-over : over_limit_in c ≡ false
  pub not-long : too_long_in c ≡ false
  pub within : end_of c w.at ≤ limit
  pub has_room : end_of c w.at ≤ length o

pub taken : (c : Call) (w : Writer) (o : List ℕ) → number_of c w o ≡ 0 → Taken c w o
taken c w o e =
    let end = end_of c w.at in
    let a = pick-due (in_turn c w.turn && behind_headers w.turn w.at) 13
    (pick (zero_in c) 11 (pick (over_limit_in c) 19 (pick (too_long_in c) 12 (pick (ltb limit end) 15 (pick (ltb (length o) end) 13 0))))) e in
    let due = both (in_turn c w.turn) (behind_headers w.turn w.at) a.0 in
    let b = pick_no (zero_in c) 10 (pick (over_limit_in c) 19 (pick (too_long_in c) 12 (pick (ltb limit end) 15 (pick (ltb (length o) end) 13 0)))) a.1 in
    let m = pick_no (over_limit_in c) 18 (pick (too_long_in c) 12 (pick (ltb limit end) 15 (pick (ltb (length o) end) 13 0))) b.1 in
    let d = pick_no (too_long_in c) 11 (pick (ltb limit end) 15 (pick (ltb (length o) end) 13 0)) m.1 in
    let f = pick_no (ltb limit end) 14 (pick (ltb (length o) end) 13 0) d.1 in
    let g = pick_no (ltb (length o) end) 12 0 f.1 in
    record {
      in-turn = due.0;
      behind = due.1;
      no_zero = b.0;
      not-over = m.0;
      not-long = d.0;
      within = ltb-false limit end f.0;
      has_room = ltb-false (length o) end g.0;
    }

-- and the other way round
pub is-taken : (c : Call) (w : Writer) (o : List ℕ) → Taken c w o → apply c w o ≡ settled 0 c w o
unfolding apply
is-taken c w o t =
    rw (
      t.in-turn,
      t.behind,
      t.no_zero,
      t.not-over,
      t.not-long,
      le-ltb limit (end_of c w.at) t.within,
      le-ltb (length o) (end_of c w.at) t.has_room,
    )

-- a call is refused and changes nothing, or is taken
pub call-cases : (P : Outcome → Type 0) (c : Call) (w : Writer) (o : List ℕ)
    → ((n : ℕ) → P (record { number = suc n; writer = w; output = o })) → (Taken c w o → P (settled 0 c w o)) → P (apply c w o)
unfolding apply
call-cases P c w o refuses takes = go (number_of c w o) refl
  where
    go : (n : ℕ) → number_of c w o ≡ n → P (settled n c w o)
    go zero e = takes (taken c w o e)
    go (suc n) e = refuses n

-- ---- the numbers

-- a number of the writer's rows
abbrev pub Row : ℕ → Type 0
Row n = (n ≡ 0) ⊎ (is_one_of call_refusals n ≡ true)

row-pick : (b : Bool) {n m : ℕ} → Row n → Row m → Row (pick b n m)
row-pick true h k = h
row-pick false h k = k

row_of : (n : ℕ) → is_one_of call_refusals n ≡ true → Row n
row_of n e = inr e

weigh-row : (due zeros over long : Bool) (end room : ℕ) → Row (weigh due zeros over long end room)
unfolding any
weigh-row due zeros over long end room =
    row-pick due (row-pick zeros (row_of 11 refl) (row-pick over (row_of 19 refl) (row-pick long (row_of 12 refl)
    (row-pick (ltb limit end) (row_of 15 refl) (row-pick (ltb room end) (row_of 13 refl) (inl refl)))))) (row_of 14 refl)

-- a call is taken with 0, or refused with 11 to 15 or 19 and leaves state and output as they were
pub call-numbers : (c : Call) (w : Writer) (o : List ℕ)
    → ((apply c w o).number ≡ 0) ⊎ ((is_one_of call_refusals (apply c w o).number ≡ true) × ((apply c w o).writer ≡ w) × ((apply c w o).output ≡ o))
unfolding apply
call-numbers c w o =
    go (number_of c w o)
    (weigh-row (in_turn c w.turn && behind_headers w.turn w.at) (zero_in c) (over_limit_in c) (too_long_in c) (end_of c w.at) (length o))
  where
    go : (n : ℕ) → Row n → ((settled n c w o).number ≡ 0)
        ⊎ ((is_one_of call_refusals (settled n c w o).number ≡ true) × ((settled n c w o).writer ≡ w) × ((settled n c w o).output ≡ o))
    go zero h = inl refl
    go (suc n) (inl e) = absurd (suc-ne-zero n e)
    go (suc n) (inr h) = inr (h, refl, refl)
