use native.Mathlib.Omega.{arith}
use Rattle.std.proofs.Common.{◌≡◌, length, sym, ◌∙◌, arith}
use Rattle.unpatch.proofs.Marks.{word_count}
use Rattle.unpatch.proofs.Ranges.{mark-none, mark-one, mark-not, mark-all}
use Rattle.unpatch.proofs.mark.Goals as goal
use Rattle.unpatch.proofs.mark.Goals.{in-Some, in_default}

pub loop-i-init : goal.loop-i-init
loop-i-init c = mark-none c.requires

pub set_bit-requires : goal.set_bit-requires
set_bit-requires c = let l = c.loop-i in
    let n : length l.words ≡ 342 = word_count _ 342 l.invariant.words in
    omega (arith, c.in-Some.ensures)

pub loop-i-preserved : goal.loop-i-preserved
loop-i-preserved c = elim c.match-offset.branch [
  | in-Some w ↦ rw w.words-is (mark-one c.loop-i.invariant (omega arith) _ (rw c.listed_at.ensures at w.in-Some.ensures) w.set_bit.ensures)
  | in_default w ↦ rw w.words-is (mark-not c.loop-i.invariant (omega arith) (rw c.listed_at.ensures at w.in_default.ensures))
]

pub shape_of-words : goal.shape_of-words
shape_of-words c = word_count _ 342 c.loop-i.invariant.words ∙ sym (word_count _ 342 c.requires)

pub returns : goal.returns
returns c = mark-all c.loop-i.invariant (omega arith)
