use native.Mathlib.Omega.{arith}
use Rattle.channels.proofs.Spans.{span-pow}
use Rattle.std.proofs.Common.{◌≡◌, ℕ, ◌-◌, ◌*◌, ◌%◌, ◌^◌, ◌<◌, ◌&&◌, ltb, leb, sym, ap, ◌∙◌, arith, pow_pos, shl_exact}
use Rattle.patching.specs.Bits.{pack}
use Rattle.channels.proofs.run.Goals as goal

-- a one shifted within a word
shifted : (n : ℕ) → n < 64 → (1 * 2 ^ n) % 2 ^ 64 ≡ 1 * 2 ^ n
shifted n h = shl_exact 1 n 64 (omega arith) (omega arith)

pub overflow_sub-result : goal.overflow_sub-result
overflow_sub-result c = let low : ℕ = c.args.low in
    let high : ℕ = c.args.high in
    let s = span-pow low high (omega arith) (omega arith) in
    omega (arith, shifted low (omega arith), shifted high (omega arith), s, pow_pos low, pow_pos high)

pub returns-then-high-lt64 : goal.returns-then-high-lt64
returns-then-high-lt64 c = let low : ℕ = c.args.low in
    let high : ℕ = c.args.high in
    let s = span-pow low high (omega arith) (omega arith) in
    omega (arith, shifted low (omega arith), shifted high (omega arith), s, pow_pos low, pow_pos high)

pub overflow_sub-result-2 : goal.overflow_sub-result-2
overflow_sub-result-2 c = let low : ℕ = c.args.low in
    omega (arith, shifted low (omega arith), pow_pos low)

pub returns : goal.returns
returns c = let low : ℕ = c.args.low in
    let high : ℕ = c.args.high in
    let n : high ≡ 64 = omega arith in
    let w : ℕ = pack (λ j. leb low j && ltb j 64) 64 in
    let p = span-pow low 64 (omega arith) (omega arith) in
    let s : 18446744073709551615 - ((1 * 2 ^ low) % 2 ^ 64 - 1) ≡ w = omega (arith, shifted low (omega arith), p, pow_pos low) in
    s ∙ ap (λ (m : ℕ). pack (λ j. leb low j && ltb j m) 64) (sym n)
