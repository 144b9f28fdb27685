-- What a write at a place of an output does, its number, and what a body's writer answers.
use Rattle.std.specs.Prelude.{ℕ, zero, suc, ◌+◌, ◌^◌, min, max, ◌≡◌, Bool, ◌||◌, List, leb, length}
use Rattle.std.proofs.lemmas.List.Edits.{sets}
use Rattle.format.specs.Format.{Format, Value, encode, number, ◌&◌}
use Rattle.format.specs.Copy.{Answer, took, denied}
use Rattle.format.specs.Fault.{holds_zero, over_limit, too_long, weighed}

-- bytes at a place of the output before, as far as it reaches: the place where the write stops, and the output after it
pub record Puts (bytes : List ℕ) (at : ℕ) (before : List ℕ) (place : ℕ) (after : List ℕ) : Type 0 where
  pub stops : place ≡ min (at + length bytes) (max at (length before))
  pub stored : after ≡ sets before at bytes

-- the same of a value of a format
pub record Writes (f : Format) (v : Value f) (at : ℕ) (before : List ℕ) (place : ℕ) (after : List ℕ) : Type 0 where
  pub writes : Puts (encode f v) at before place after

-- the largest usize
abbrev pub usize_max : ℕ
usize_max = 18446744073709551615

-- a number of bytes, at most usize::MAX, which no memory holds: no sum of the code wraps
abbrev pub capped : ℕ → ℕ
capped n = min n usize_max

-- the number of a write of len bytes at a place of an output of room bytes
pub record Weighs (number : ℕ) (zeros over long : Bool) (at len room : ℕ) : Type 0 where
  pub weighs : number ≡ weighed zeros over long (at + len) room

-- what a writer of this number answers, and the output: with 0 the bytes stand at the place, and the answer is the place behind them;
-- with any other number the output is what it was
abbrev pub settled : (number at : ℕ) (bytes out : List ℕ) → Answer × List ℕ
settled zero at bytes out = (took (at + length bytes), sets out at bytes)
settled (suc n) at bytes out = (denied (suc n), out)

-- a value at a place, where `zeros` says that a string holds a zero, `over` that one is longer than its limit,
-- and `long` that a list, or a count that is declared, is too long
unfoldable pub put_judged : (zeros over long : Bool) (f : Format) → Value f → (at : ℕ) (out : List ℕ) → Answer × List ℕ
put_judged zeros over long f v at out = settled (weighed zeros over long (at + length (encode f v)) (length out)) at (encode f v) out

-- a body at a place: what its `write_to_bytes` answers, and the output after it
abbrev pub put_at : (f : Format) → Value f → (at : ℕ) (out : List ℕ) → Answer × List ℕ
put_at f v at out = put_judged (holds_zero f v) (over_limit f v) (too_long f v) f v at out

-- a head at a place: the fields, then a count in a field of w bytes, which it may be too long for
abbrev pub put_head : (f : Format) → Value f → (w count at : ℕ) (out : List ℕ) → Answer × List ℕ
put_head f v w count at out = put_judged (holds_zero f v) (over_limit f v) (too_long f v || leb (256 ^ w) count) (f & number w) (v, count) at out
