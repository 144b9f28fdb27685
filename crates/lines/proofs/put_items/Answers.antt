use Rattle.std.specs.Prelude.{◌≡◌, Ok, Err, Some, None}
use Rattle.text.proofs.Loops.{onto-none}
use Rattle.lines.proofs.Items.{less, goes_on, ends, stops, listed-step}
use Rattle.lines.proofs.put_items.Goals as goal

pub loop-next-init : goal.loop-next-init
loop-next-init g c = onto-none

pub loop-next-smaller : goal.loop-next-smaller
loop-next-smaller g c =
    let step = listed-step g.N.Count.number (Ok (Some (c.in-Ok-Some.x, c.in-Ok-Some.more))) c.args.body.now c.loop-next.rest.at (g.N.Count.number c.loop-next.rest.left)
    g.met.P.ItemLines.read_so (rw c.in-Ok-Some.field-0-is at c.in-Ok-Some.ensures.fields) in
    less (g.P.ItemLines.listed c.args.p) c.args.body.now c.loop-next.rest.at _ step

pub loop-next-preserved : goal.loop-next-preserved
loop-next-preserved g c =
    let step = listed-step g.N.Count.number (Ok (Some (c.in-Ok-Some.x, c.in-Ok-Some.more))) c.args.body.now c.loop-next.rest.at (g.N.Count.number c.loop-next.rest.left)
    g.met.P.ItemLines.read_so (rw c.in-Ok-Some.field-0-is at c.in-Ok-Some.ensures.fields) in
    goes_on (g.P.ItemLines.listed c.args.p) c.args.body.now c.loop-next.rest.at _ step c.loop-next.invariant c.put-next.ensures

pub returns-in_default : goal.returns-in_default
returns-in_default g c =
    let none : c.in_default.field-0 ≡ None = cc in
    let step = listed-step g.N.Count.number (Ok None) c.args.body.now c.loop-next.rest.at (g.N.Count.number c.loop-next.rest.left)
    g.met.P.ItemLines.read_so (rw (c.in_default.is, none) at c.next.ensures.fields) in
    ends (g.P.ItemLines.listed c.args.p) c.args.body.now c.loop-next.rest.at _ step c.loop-next.invariant

pub returns-in_default-2 : goal.returns-in_default-2
returns-in_default-2 g c =
    let step = listed-step g.N.Count.number (Err c.in_default.field-0) c.args.body.now c.loop-next.rest.at (g.N.Count.number c.loop-next.rest.left)
    g.met.P.ItemLines.read_so (rw c.in_default.is at c.next.ensures.fields) in
    stops (g.P.ItemLines.listed c.args.p) c.args.body.now c.loop-next.rest.at _ step c.loop-next.invariant
