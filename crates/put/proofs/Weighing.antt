-- Laws of the number of a write: a capped size weighs as the size itself, and what the number 0 tells.
use Prim.Native.Nat.{ℕ, suc, ◌+◌, ◌≤◌, ◌<◌}
use mathlib.Core.Path.{◌≡◌, refl}
use mathlib.Core.Bool.{Bool, true, false}
use native.Mathlib.Nat.{suc-ne-zero, min-eq_left}
use native.Mathlib.Omega.{arith}
use borrow.Author.Tests.{lt-ltb, ltb-false}
use lib.Dec.{ltb}
use Rattle.format.specs.Format.{pick}
use Rattle.format.specs.Fault.{weighed, limit}
use Rattle.put.specs.Put.{usize_max, capped}
use Rattle.put.proofs.Writing.{split}

weighed-past : (zeros over long : Bool) (x y room : ℕ) → limit < x → limit < y → weighed zeros over long x room ≡ weighed zeros over long y room
weighed-past zeros over long x y room h k = rw (lt-ltb limit x h, lt-ltb limit y k) refl

pub weighed-capped : (zeros over long : Bool) (at x room : ℕ) → weighed zeros over long (at + capped x) room ≡ weighed zeros over long (at + x) room
weighed-capped zeros over long at x room = split x usize_max
    (λ h. rw (min-eq_left h) refl)
    (λ h. weighed-past zeros over long (at + capped x) (at + x) room (omega arith) (omega arith))

-- a write that is taken
pub record Passed (zeros over long : Bool) (end room : ℕ) : Type 0 where
  pub no_zero : zeros ≡ false
  pub not-over : over ≡ false
  pub not-long : long ≡ false
  pub within : end ≤ limit
  pub has_room : end ≤ room

pick_no : (b : Bool) (n m : ℕ) → pick b (suc n) m ≡ 0 → (b ≡ false) × (m ≡ 0)
pick_no true n m e = absurd (suc-ne-zero n e)
pick_no false n m e = (refl, e)

pub passed : (zeros over long : Bool) (end room : ℕ) → weighed zeros over long end room ≡ 0 → Passed zeros over long end room
passed true over long end room e = absurd (omega arith)
passed false true long end room e = absurd (omega arith)
passed false false true end room e = absurd (omega arith)
passed false false false end room e =
    let packet = pick_no (ltb limit end) 14 (pick (ltb room end) 13 0) e in
    record {
      no_zero = refl;
      not-over = refl;
      not-long = refl;
      within = ltb-false limit end packet.0;
      has_room = ltb-false room end (pick_no (ltb room end) 12 0 packet.1).0;
    }
