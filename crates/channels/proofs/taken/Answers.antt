use Rattle.std.proofs.Common.{◌≡◌, ℕ, ◌+◌, ◌*◌, Bool, get_or, sym, refl, ap, ◌∙◌, arith}
use lib.Count.{ones}
use Rattle.patching.specs.Bits.{many}
use Rattle.patching.specs.Book.{taken_at}
use Rattle.patching.proofs.Digits.{many-le}
use Rattle.channels.proofs.Blocks.{ones-word}
use Rattle.channels.proofs.taken.Goals as goal

pub loop-word-init : goal.loop-word-init
unfolding many
loop-word-init c = refl

pub overflow_add-taken : goal.overflow_add-taken
overflow_add-taken c = let k = c.loop-word.word-index in
    let w = c.words_of-words in
    let p : ℕ → Bool = taken_at c.args.entries.now c.args.universe in
    omega (arith, ones-word p w.result w.ensures k (omega arith), many-le p (k * 64 + 64))

pub loop-word-preserved : goal.loop-word-preserved
loop-word-preserved c = let k = c.loop-word.word-index in
    let w = c.words_of-words in
    let p : ℕ → Bool = taken_at c.args.entries.now c.args.universe in
    let n : (k + 1) * 64 ≡ k * 64 + 64 = omega arith in
    ap (λ (m : ℕ). m + ones (get_or w.result k 0)) c.loop-word.invariant ∙ ones-word p w.result w.ensures k (omega arith) ∙ ap (many p) (sym n)

pub returns : goal.returns
returns c = let p : ℕ → Bool = taken_at c.args.entries.now c.args.universe in
    let n : c.loop-word.word-index * 64 ≡ 512 = omega arith in
    c.loop-word.invariant ∙ ap (many p) n
