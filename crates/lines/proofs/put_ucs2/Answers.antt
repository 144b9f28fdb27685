use Rattle.lines.proofs.Fields.{bytes_from}
use Rattle.lines.proofs.put_ucs2.Goals as goal

pub returns : goal.returns
returns c = rw (c.min-start.ensures, bytes_from c.args.body.now c.args.x.start) at c.put_escaped_units_line.ensures
