use mathlib.Core.Path.{sym, ◌∙◌}
use borrow.Author.Rules.{rules}
use Rattle.text.proofs.Digits.{itself-below}
use Rattle.text.proofs.Texts.{texts}
use Rattle.text.proofs.put_escape.Goals as goal

pub returns-then-is_coded : goal.returns-then-is_coded
returns-then-is_coded c = let is = sym c.is_coded.ensures ∙ c.if-is_coded.true in
    search (texts, is)

pub overflow_cast-unit : goal.overflow_cast-unit
overflow_cast-unit c = let below = itself-below c.args.unit (sym c.is_coded.ensures ∙ c.if-is_coded.false) in
    search (rules, below)

pub returns : goal.returns
returns c = let is = sym c.is_coded.ensures ∙ c.if-is_coded.false in
    search (texts, is)
