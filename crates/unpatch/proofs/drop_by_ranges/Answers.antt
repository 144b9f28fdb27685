use native.Mathlib.Omega.{arith}
use Rattle.std.proofs.Common.{sym, refl, ◌∙◌, arith}
use Rattle.unpatch.proofs.Marks.{word_count}
use Rattle.unpatch.proofs.Found.{found-dropped}
use Rattle.unpatch.proofs.Passes.{from, unmoved, drop-next, keep_one, dropped}
use Rattle.unpatch.proofs.drop_by_ranges.Goals as goal
use Rattle.unpatch.proofs.drop_by_ranges.Goals.{then-not-has_bit, else-not-has_bit}

pub loop-i-init : goal.loop-i-init
loop-i-init c = from (omega arith, refl)

pub slice_bounds-has_bit-end : goal.slice_bounds-has_bit-end
slice_bounds-has_bit-end c = sym (word_count _ 4 c.find_listed-found.ensures)

pub has_bit-requires : goal.has_bit-requires
has_bit-requires c = let n = word_count _ 4 c.find_listed-found.ensures in omega arith

pub loop-i-preserved : goal.loop-i-preserved
loop-i-preserved c = let l = c.loop-i in
    let e = found-dropped c.args.identifiers.now c.args.entries.now l.i (omega arith) c.find_listed-found.ensures (omega arith) (omega arith) in
    elim c.if-not-has_bit.branch [
      | then-not-has_bit w ↦ rw (w.entries-is, w.kept-is)
          (keep_one l.invariant (omega arith) (rw (unmoved l.invariant) (sym e ∙ sym c.has_bit.ensures ∙ w.if-not-has_bit.true)))
      | else-not-has_bit w ↦ rw (w.entries-is, w.kept-is)
          (drop-next l.invariant (omega arith) (rw (unmoved l.invariant) (sym e ∙ sym c.has_bit.ensures ∙ w.if-not-has_bit.false)))
    ]

pub shape_of-entries : goal.shape_of-entries
shape_of-entries c = c.loop-i.invariant.keeping.as_many

pub returns : goal.returns
returns c = dropped c.loop-i.invariant (omega arith)
