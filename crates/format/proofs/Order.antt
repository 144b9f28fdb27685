-- Fields are read in wire order: the first refusal is the answer; a type byte is tested once it is read, a string once its end is found,
-- whatever follows. And the order in which a write is weighed.
use Prim.Native.Nat.{ℕ, suc, ◌+◌, ◌*◌, ◌≤◌, ◌<◌}
use mathlib.Core.Path.{◌≡◌, refl}
use mathlib.Core.Bool.{true, false}
use mathlib.Core.List.{List, ◌∷◌}
use native.Mathlib.Omega.{arith}
use lib.ListN.{length}
use borrow.Author.Tests.{lt-ltb, le-ltb}
use Rattle.format.specs.Format.{Format, code, cstring, ucs2, ◌&◌, Value, got, refused, decode_number, decode_items, decode_cstring, decode_ucs2, decode}
use Rattle.format.specs.Fault.{weighed}

-- a field that is refused ends the reading there
pub first-refused : (f g : Format) (s : List ℕ) (n : ℕ) → decode f s ≡ refused n → decode (f & g) s ≡ refused n
unfolding decode
first-refused f g s n e = rw e

-- behind a field that is read, the next one decides
pub next-refused : (f g : Format) (s : List ℕ) (a : Value f) (t : List ℕ) (n : ℕ) → decode f s ≡ got a t → decode g t ≡ refused n → decode (f & g) s ≡ refused n
unfolding decode
next-refused f g s a t n e e' = rw (e, e')

-- an item that is refused ends the list there
pub item_refused : (f : Format) (left : ℕ) (s : List ℕ) (n : ℕ) → decode f s ≡ refused n → decode_items (decode f) (suc left) s ≡ refused n
unfolding decode_items
item_refused f left s n e = rw e

-- a type byte past its limit
pub code-first : (limit refusal : ℕ) (c : ℕ) (s : List ℕ) → limit ≤ c → decode (code limit refusal) (c ∷ s) ≡ refused refusal
unfolding decode decode_number
code-first limit refusal c s h =
    let whole : c + 256 * 0 ≡ c = omega arith in
    rw (whole, le-ltb c limit h)

-- a string without an end, whatever its limit; and one longer than its limit, whatever stands behind it
pub cstring-end-first : (limit : ℕ) (s : List ℕ) (n : ℕ) → decode_cstring s ≡ refused n → decode (cstring limit) s ≡ refused n
unfolding decode
cstring-end-first limit s n e = rw e

pub cstring-then-limit : (limit : ℕ) (s xs t : List ℕ) → decode_cstring s ≡ got xs t → limit < length xs → decode (cstring limit) s ≡ refused 19
unfolding decode
cstring-then-limit limit s xs t e h = rw (e, lt-ltb limit (length xs) h)

pub ucs2-end-first : (limit : ℕ) (s : List ℕ) (n : ℕ) → decode_ucs2 s ≡ refused n → decode (ucs2 limit) s ≡ refused n
unfolding decode
ucs2-end-first limit s n e = rw e

pub ucs2-then-limit : (limit : ℕ) (s xs t : List ℕ) → decode_ucs2 s ≡ got xs t → limit < length xs → decode (ucs2 limit) s ≡ refused 19
unfolding decode
ucs2-then-limit limit s xs t e h = rw (e, lt-ltb limit (length xs) h)

-- the rows of a write, tested from the top: each of the five breaks its own and every row behind it
pub write-rows :
    (weighed true true true 16777217 0 ≡ 11)
    × (weighed false true true 16777217 0 ≡ 19)
    × (weighed false false true 16777217 0 ≡ 12)
    × (weighed false false false 16777217 0 ≡ 15)
    × (weighed false false false 16777216 16777215 ≡ 13)
    × (weighed false false false 16777216 16777216 ≡ 0)
write-rows = (refl, refl, refl, refl, refl, refl)
