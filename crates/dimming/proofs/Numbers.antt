-- Every refusal of a message has a number of the table, and leaves the levels as they were.
use Prim.Native.Nat.{ℕ, ◌<◌, ◌≤◌}
use mathlib.Core.Path.{◌≡◌, refl}
use mathlib.Core.Bool.{Bool, true, false, ◌||◌, false≢true}
use mathlib.Core.List.{List, [], ◌∷◌}
use borrow.Author.Tests.{ltb-true, ltb-false}
use native.Mathlib.Omega.{arith}
use lib.Dec.{ltb}
use Rattle.format.specs.Format.{Value, Read, got, refused, decode, In, here, there}
use Rattle.format.specs.Fault.{any}
use Rattle.format.proofs.Faults.{any_false}
use Rattle.format.proofs.Lists.{all_in}
use Rattle.format.proofs.Refusal.{Refuses, refuses}
use Rattle.protocol.specs.Kind.{ChBk, ChLs, body_of}
use Rattle.protocol.proofs.Values.{levels-refuse}
use Rattle.dimming.specs.Levels.{Message, chbk, chls, Setting, Change, settings, unread}
use Rattle.dimming.specs.Levels.{asked, block_settings, list_settings, change, settings_of, is_past, set_all, answer}
use Rattle.dimming.specs.Claims as claims
use Rattle.dimming.specs.Claims.{Names, Reads, block_reads, list_reads, Unread, block_unread, list_unread, Numbered, taken, past, not_read}
use Rattle.dimming.proofs.Named.{settings-named}

-- a body that reads asks for settings; one that does not is refused with 7
abbrev Read-as : Message → Change → Type 0
Read-as m (settings xs) = Reads m
Read-as m (unread n) = (n ≡ 7) × Unread 7 m

read_as : (u : ℕ) (m : Message) → Read-as m (change u m)
read_as u (chbk s) = go (decode (body_of ChBk) s) refl (levels-refuse (λ n. n ≡ 7) refl s).0
  where
    go : (r : Read (Value (body_of ChBk))) → decode (body_of ChBk) s ≡ r → Refuses (λ n. n ≡ 7) r → Read-as (chbk s) (asked (block_settings u) r)
    go (got v rest) e h = block_reads e
    go (refused n) e (refuses q) = (q, block_unread (rw q at e))
read_as u (chls s) = go (decode (body_of ChLs) s) refl (levels-refuse (λ n. n ≡ 7) refl s).1
  where
    go : (r : Read (Value (body_of ChLs))) → decode (body_of ChLs) s ≡ r → Refuses (λ n. n ≡ 7) r → Read-as (chls s) (asked (list_settings u) r)
    go (got v rest) e h = list_reads e
    go (refused n) e (refuses q) = (q, list_unread (rw q at e))

-- a setting past 511
record Past (xs : List Setting) : Type 0 where
  pub setting : Setting
  pub among : In setting xs
  pub beyond : 511 < setting.0

past-any : (xs : List Setting) → any is_past xs ≡ true → Past xs
unfolding any
past-any [] h = absurd (false≢true h)
past-any (x ∷ xs) h = by (ltb 511 x.0) refl h (past-any xs)
  where
    by : (b : Bool) → ltb 511 x.0 ≡ b → (b || any is_past xs) ≡ true → (any is_past xs ≡ true → Past xs) → Past (x ∷ xs)
    by true e h more = record { setting = x; among = here; beyond = ltb-true 511 x.0 e }
    by false e h more = let p = more h in record { setting = p.setting; among = there p.among; beyond = p.beyond }

pub levels-numbers : claims.LevelsNumbers
unfolding set_all
levels-numbers u m levels = go (change u m) refl (read_as u m)
  where
    go : (c : Change) → change u m ≡ c → Read-as m c → Numbered u m levels (answer (change u m) levels)
    go (unread n) e (q, h) = rw (e, q) (not_read h)
    go (settings xs) e h = by (any is_past xs) refl
      where
        by : (b : Bool) → any is_past xs ≡ b → Numbered u m levels (answer (change u m) levels)
        by true q =
            let p = past-any xs q in
            rw (e, q) (past ((settings-named u m p.setting).0 (rw e p.among)) p.beyond)
        by false q =
            let a = any_false is_past xs q in
            let within : (x : Setting) → Names u m x → x.0 < 512 = λ x n.
            let i : In x xs = rw e at ((settings-named u m x).1 n) in
            let l : x.0 ≤ 511 = ltb-false 511 x.0 (all_in (λ y. is_past y ≡ false) xs i a) in
            omega arith in
            let t : Numbered u m levels (0, set_all (settings_of (change u m)) levels) = taken h within in
            rw (e, q) (rw e at t)
