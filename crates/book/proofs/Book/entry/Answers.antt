use mathlib.Core.Path.{sym, ap, ◌∙◌}
use native.Mathlib.Omega.{arith}
use Rattle.patching.specs.Entry.{Entry, fields}
use Rattle.patching.specs.Book.{held}
use Rattle.std.specs.Prelude.{Some}
use Rattle.book.specs.declared.Entry.{Entry as Fixture}
use Rattle.book.specs.Listed.{struct_of, listed_of}
use Rattle.book.proofs.Held.{held-within, held_at, entry-there, entry_past}
use Rattle.book.proofs.Book.entry.Goals as goal

pub offset_bounds-entries-k : goal.offset_bounds-entries-k
offset_bounds-entries-k c = let a = c.args in
    omega (arith, held-within a.self.count a.entries.now c.held.result c.held.ensures)

pub bounds-entries-k : goal.bounds-entries-k
bounds-entries-k c = let a = c.args in
    let h = c.held in
    omega (arith, held-within a.self.count a.entries.now h.result h.ensures)

pub returns-then-k-held : goal.returns-then-k-held
returns-then-k-held c = let a = c.args in
    let h = c.held in
    ap (λ (x : Fixture). Some x) c.fields_of.ensures
    ∙ ap (λ (x : Entry). Some (struct_of (fields x))) (sym (held_at a.self.count a.entries.now h.result h.ensures a.k (omega arith)))
    ∙ ap listed_of (entry-there a.k (held a.self.count a.entries.now) (omega (arith, h.ensures)))

pub returns : goal.returns
returns c = let a = c.args in
    ap listed_of (entry_past a.k (held a.self.count a.entries.now) (omega (arith, c.held.ensures)))
