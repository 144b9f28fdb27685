use mathlib.Core.Path.{sym, ap, ◌∙◌}
use native.Mathlib.Omega.{arith}
use lib.Seq.{length-take-le}
use Rattle.refusal.proofs.Handed.{handed}
use Rattle.patching.specs.Book.{Change, unpatch, uptc, answer}
use Rattle.patching.proofs.Numbers.{unread-kept}
use Rattle.book.proofs.Held.{held-within}
use Rattle.book.proofs.Answers.{unpatched}
use Rattle.book.proofs.Bodies.{uptc-read, uptc-unread, part-units}
use Rattle.book.proofs.Book.unpatch.Goals as goal

pub returns-in_err-u : goal.returns-in_err-u
returns-in_err-u c = let a = c.args in
    rw (handed c.from_residual.ensures)
    (unread-kept (uptc a.body.now) _ (uptc-unread a.body.now _ (sym c.in_err-u.ensures)) a.self.count a.entries.now)

pub overflow_add-to : goal.overflow_add-to
overflow_add-to c = omega (arith, (uptc-read c.args.body.now _ _ _ (sym c.in_ok-u.ensures)).0)

pub slice_bounds-drop_listed-end : goal.slice_bounds-drop_listed-end
slice_bounds-drop_listed-end c = let a = c.args in
    held-within a.self.count a.entries.now c.held-held.result c.held-held.ensures

pub slice_bounds-drop_listed-end-2 : goal.slice_bounds-drop_listed-end-2
slice_bounds-drop_listed-end-2 c = let a = c.args in
    let h = c.held-held in
    sym (length-take-le h.result a.entries.now (held-within a.self.count a.entries.now h.result h.ensures))

pub slice_bounds-drop_listed-end-3 : goal.slice_bounds-drop_listed-end-3
slice_bounds-drop_listed-end-3 c = (uptc-read c.args.body.now _ _ _ (sym c.in_ok-u.ensures)).0

pub returns : goal.returns
returns c = let a = c.args in
    let h = c.held-held in
    let v = uptc-read a.body.now _ _ _ (sym c.in_ok-u.ensures) in
    unpatched a.self.count a.entries.now h.result h.ensures _ c.drop_listed-count.ensures
    ∙ ap (λ (x : Change). answer x a.self.count a.entries.now) (ap unpatch (part-units a.body.now _ _ v.0) ∙ v.1)
