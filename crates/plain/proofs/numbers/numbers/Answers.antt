use Rattle.plain.proofs.numbers.numbers.Goals as goal

pub returns : goal.returns
returns c = rw (c.pattern_of-6.ensures, c.pattern_of-5.ensures, c.pattern_of-4.ensures, c.pattern_of-3.ensures, c.pattern_of-2.ensures, c.pattern_of.ensures)
