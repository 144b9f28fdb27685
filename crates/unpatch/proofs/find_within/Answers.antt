use native.Mathlib.Omega.{arith}
use Rattle.std.proofs.Common.{◌≡◌, length, replicate, sym, ap, ◌∙◌, arith}
use Rattle.unpatch.specs.Unpatch.{identifiers_of}
use Rattle.unpatch.proofs.Marks.{word_count}
use Rattle.unpatch.proofs.Ranges.{no-marks}
use Rattle.unpatch.proofs.Found.{found-same, find-start, find-outside, find-not, find-one, find-end}
use Rattle.unpatch.proofs.find_within.Goals as goal
use Rattle.unpatch.proofs.find_within.Goals.{in-Some+then-has_bit, in-Some+else-has_bit, in_default}

pub returns-then-not-any_within : goal.returns-then-not-any_within
returns-then-not-any_within c = let a = c.args in
    c.requires.1
    ∙ found-same a.base (identifiers_of a.identifiers.now) a.entries.now (sym c.any_within.ensures ∙ c.if-not-any_within.true)

pub mark-requires : goal.mark-requires
mark-requires c = ap (replicate 342) c.opaque_zero-zero.ensures ∙ no-marks _

pub loop-i-init : goal.loop-i-init
loop-i-init c = (omega arith, find-start c.mark.ensures c.requires.1)

pub slice_bounds-has_bit-end : goal.slice_bounds-has_bit-end
slice_bounds-has_bit-end c = sym (word_count _ 342 c.loop-i.invariant.1.marked)

pub has_bit-requires : goal.has_bit-requires
has_bit-requires c = let n = word_count _ 342 c.loop-i.invariant.1.marked in omega (arith, c.in-Some.ensures)

pub set_bit-requires : goal.set_bit-requires
set_bit-requires c = let l = c.loop-i in
    let n : length l.found ≡ 4 = word_count _ 4 l.invariant.1.bits in
    omega arith

pub loop-i-preserved : goal.loop-i-preserved
loop-i-preserved c = let l = c.loop-i in (
  omega arith,
  elim c.match-offset.branch [
    | in-Some+then-has_bit w ↦ let o = rw c.identifier.ensures at w.in-Some.ensures in
        rw w.found-is (find-one l.invariant.1 (omega arith) _ o (omega arith) (sym w.has_bit.ensures ∙ w.if-has_bit.true) w.set_bit.ensures)
    | in-Some+else-has_bit w ↦ let o = rw c.identifier.ensures at w.in-Some.ensures in
        rw w.found-is (find-not l.invariant.1 (omega arith) _ o (sym w.has_bit.ensures ∙ w.if-has_bit.false))
    | in_default w ↦ rw w.found-is (find-outside l.invariant.1 (omega arith) (rw c.identifier.ensures at w.in_default.ensures))
  ],
)

pub shape_of-found : goal.shape_of-found
shape_of-found c = word_count _ 4 c.loop-i.invariant.1.bits
    ∙ sym (word_count _ 4 c.requires.1)

pub returns : goal.returns
returns c = find-end c.loop-i.invariant.1 (omega arith)
