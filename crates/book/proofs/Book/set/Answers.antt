use mathlib.Core.Path.{sym, ◌∙◌}
use lib.Seq.{length-take-le}
use Rattle.refusal.proofs.Handed.{handed}
use Rattle.book.proofs.Held.{held-within}
use Rattle.book.proofs.Answers.{misfit, finds-clash, finds-full, finds-room, finds-put}
use Rattle.book.proofs.Book.set.Goals as goal

pub returns-then-misfits : goal.returns-then-misfits
returns-then-misfits c = let a = c.args in
    misfit a.entry a.self.count a.entries.now (sym c.misfits.ensures ∙ c.if-misfits.true)

pub slice_bounds-find-end : goal.slice_bounds-find-end
slice_bounds-find-end c = let a = c.args in
    held-within a.self.count a.entries.now c.held-held.result c.held-held.ensures

pub slice_bounds-find-end-2 : goal.slice_bounds-find-end-2
slice_bounds-find-end-2 c = let a = c.args in
    let h = c.held-held in
    sym (length-take-le h.result a.entries.now (held-within a.self.count a.entries.now h.result h.ensures))

pub returns-in_err-place : goal.returns-in_err-place
returns-in_err-place c = let a = c.args in
    let h = c.held-held in
    rw (handed c.from_residual.ensures, c.in_err-place.ensures.0)
    (finds-clash a.entry a.self.count a.entries.now h.result h.ensures (sym c.misfits.ensures ∙ c.if-misfits.false) c.in_err-place.ensures.1)

pub returns-then-is_full : goal.returns-then-is_full
returns-then-is_full c = let a = c.args in
    let n = c.room in
    finds-full a.entry a.self.count a.entries.now c.held-held.result c.held-held.ensures _ c.in_ok-place.ensures
    n.result n.ensures (sym c.misfits.ensures ∙ c.if-misfits.false) c.is_full.ensures c.if-is_full.true

pub replace-count-requires : goal.replace-count-requires
replace-count-requires c = let a = c.args in
    let n = c.room in (
      held-within a.self.count a.entries.now c.held-held.result c.held-held.ensures,
      c.in_ok-place.ensures,
      finds-room a.entry a.self.count a.entries.now c.held-held.result c.held-held.ensures _ c.in_ok-place.ensures
          n.result n.ensures c.is_full.ensures c.if-is_full.false,
    )

pub returns : goal.returns
returns c = let a = c.args in
    let n = c.room in
    finds-put a.entry a.self.count a.entries.now c.held-held.result c.held-held.ensures _ c.in_ok-place.ensures
    n.result n.ensures (sym c.misfits.ensures ∙ c.if-misfits.false)
    c.is_full.ensures c.if-is_full.false c.replace-count.ensures
