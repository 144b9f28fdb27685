use mathlib.Core.Path.{sym, ap, ◌∙◌}
use mathlib.Core.List.{List}
use lib.Seq.{length-take-le}
use Rattle.patching.specs.Entry.{Entry}
use Rattle.patching.specs.Book.{free_in}
use Rattle.channels.specs.Free.{free_of}
use Rattle.book.proofs.Held.{held-within, held-take}
use Rattle.book.proofs.Book.first_free.Goals as goal

pub slice_bounds-first_free-end : goal.slice_bounds-first_free-end
slice_bounds-first_free-end c = let a = c.args in
    let h = c.held-held in
    sym (length-take-le h.result a.entries.now (held-within a.self.count a.entries.now h.result h.ensures))

pub returns : goal.returns
returns c = let a = c.args in
    let h = c.held-held in
    c.first_free.ensures ∙ ap (λ (l : List Entry). free_of (free_in a.universe l)) (held-take a.self.count a.entries.now h.result h.ensures)
