use native.Mathlib.Omega.{arith}
use mathlib.Core.Path.{ap₂, ◌∙◌}
use Prim.Native.Nat.{ℕ}
use Rattle.patching.specs.Entry.{identifier, universe}
use Rattle.patching.proofs.Fields.{narrow}
use Rattle.book.specs.Listed.{struct_of}
use Rattle.book.proofs.fields_of.Goals as goal

pub overflow_cast-result : goal.overflow_cast-result
overflow_cast-result c = omega (arith, c.identifier.ensures, (narrow c.args.entry).0)

pub overflow_cast-result-2 : goal.overflow_cast-result-2
unfolding universe
overflow_cast-result-2 c = omega (arith, c.universe.ensures)

pub overflow_cast-result-3 : goal.overflow_cast-result-3
overflow_cast-result-3 c = omega (arith, c.channel.ensures, (narrow c.args.entry).1)

pub overflow_cast-result-4 : goal.overflow_cast-result-4
overflow_cast-result-4 c = omega (arith, c.channel_count.ensures, (narrow c.args.entry).2)

pub returns : goal.returns
returns c = let e = c.args.entry in
    ap₂ (λ (x y : ℕ). struct_of (x, y, c.channel.result, c.channel_count.result))
    c.identifier.ensures c.universe.ensures
    ∙ ap₂ (λ (x y : ℕ). struct_of (identifier e, universe e, x, y)) c.channel.ensures c.channel_count.ensures
