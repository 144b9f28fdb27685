use native.Mathlib.Omega.{arith}
use Rattle.std.proofs.Common.{ℕ, ◌/◌, ◌%◌, ◌^◌, get_or, set, ap, ◌∙◌, one-mul, arith, shl_exact}
use lib.Bits.{bit_or}
use Rattle.unpatch.proofs.set_bit.Goals as goal

pub returns : goal.returns
returns c = let ws = c.args.words.now in
    let j : ℕ = c.args.j in
    ap (λ (n : ℕ). set ws (j / 64) (bit_or (get_or ws (j / 64) 0) n)) (shl_exact 1 (j % 64) 64 (omega arith) (omega arith) ∙ one-mul (2 ^ (j % 64)))
