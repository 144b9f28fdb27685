use Rattle.std.proofs.Common.{◌≡◌, ℕ, ◌+◌, ◌*◌, Bool, not, sym, refl, ap, ◌∙◌, arith}
use Rattle.patching.specs.Bits.{first}
use Rattle.patching.specs.Book.{taken_at, below}
use Rattle.channels.specs.Free.{free_of}
use Rattle.channels.proofs.Blocks.{found, further}
use Rattle.channels.proofs.first_free.Goals as goal

pub loop-k-init : goal.loop-k-init
unfolding first
loop-k-init c = refl

pub returns-then-zeros-lt64 : goal.returns-then-zeros-lt64
returns-then-zeros-lt64 c = let b = c.loop-k in
    let w = c.words_of-words in
    let p : ℕ → Bool = taken_at c.args.entries.now c.args.universe in
    ap free_of (found p w.result w.ensures b.k (omega arith) b.invariant c.if-zeros-lt64.true)

pub loop-k-preserved : goal.loop-k-preserved
loop-k-preserved c = let b = c.loop-k in
    let w = c.words_of-words in
    let p : ℕ → Bool = taken_at c.args.entries.now c.args.universe in
    let n : (b.k + 1) * 64 ≡ b.k * 64 + 64 = omega arith in
    ap (first (λ c. not (p c))) n ∙ further p w.result w.ensures b.k (omega arith) b.invariant c.if-zeros-lt64.false ∙ sym n

pub returns : goal.returns
returns c = let b = c.loop-k in
    let p : ℕ → Bool = taken_at c.args.entries.now c.args.universe in
    let n : b.k * 64 ≡ 512 = omega arith in
    sym (ap (λ (m : ℕ). free_of (below 512 m)) (ap (first (λ c. not (p c))) (sym n) ∙ b.invariant ∙ n))
