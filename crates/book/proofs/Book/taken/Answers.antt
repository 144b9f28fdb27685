use mathlib.Core.Path.{sym, ap, ◌∙◌}
use mathlib.Core.List.{List}
use lib.Seq.{length-take-le}
use Rattle.patching.specs.Entry.{Entry}
use Rattle.patching.specs.Book.{taken_in}
use Rattle.book.proofs.Held.{held-within, held-take}
use Rattle.book.proofs.Book.taken.Goals as goal

pub slice_bounds-taken-end : goal.slice_bounds-taken-end
slice_bounds-taken-end c = let a = c.args in
    let h = c.held-held in
    sym (length-take-le h.result a.entries.now (held-within a.self.count a.entries.now h.result h.ensures))

pub returns : goal.returns
returns c = let a = c.args in
    let h = c.held-held in
    c.taken.ensures ∙ ap (λ (l : List Entry). taken_in a.universe l) (held-take a.self.count a.entries.now h.result h.ensures)
