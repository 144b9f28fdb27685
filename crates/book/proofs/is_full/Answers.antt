use mathlib.Core.Path.{sym, ap, ◌∙◌}
use mathlib.Core.Bool.{Bool, ◌&&◌}
use lib.Dec.{leb}
use borrow.Author.Tests.{eq-eqb, ne_eqb}
use Rattle.book.proofs.is_full.Goals as goal

pub returns-then-own_count-eq0 : goal.returns-then-own_count-eq0
returns-then-own_count-eq0 c = let a = c.args in
    sym (ap (λ (t : Bool). t && leb a.room a.held) (eq-eqb a.own_count 0 c.if-own_count-eq0.true))

pub returns-else-own_count-eq0 : goal.returns-else-own_count-eq0
returns-else-own_count-eq0 c = let a = c.args in
    let n = ne_eqb a.own_count 0 c.if-own_count-eq0.false in
    n ∙ sym (ap (λ (t : Bool). t && leb a.room a.held) n)
