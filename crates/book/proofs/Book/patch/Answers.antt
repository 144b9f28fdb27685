use mathlib.Core.Path.{sym, ap, ◌∙◌}
use Rattle.refusal.proofs.Handed.{handed}
use Rattle.patching.specs.Entry.{Entry, fields}
use Rattle.patching.specs.Book.{Change, patch, ptch, answer}
use Rattle.patching.proofs.Numbers.{unread-kept}
use Rattle.book.proofs.Answers.{by_number}
use Rattle.book.proofs.Bodies.{ptch-read, ptch-unread}
use Rattle.book.proofs.Book.patch.Goals as goal

pub returns-in_err-p : goal.returns-in_err-p
returns-in_err-p c = let a = c.args in
    rw (handed c.from_residual.ensures)
    (unread-kept (ptch a.body.now) _ (ptch-unread a.body.now _ (sym c.in_err-p.ensures)) a.self.count a.entries.now)

pub returns : goal.returns
returns c = let a = c.args in
    c.set.ensures
    ∙ ap (λ (x : Entry). answer (patch (fields x)) a.self.count a.entries.now) c.entry_of-entry.ensures
    ∙ by_number _ a.self.count a.entries.now
    ∙ ap (λ (x : Change). answer x a.self.count a.entries.now) (ptch-read a.body.now _ _ (sym c.in_ok-p.ensures))
