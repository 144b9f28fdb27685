use native.Mathlib.Omega.{arith}
use Rattle.wire.proofs.Blocks.{block-past, block-whole, block-clipped}
use Rattle.wire.proofs.Block.bytes.Goals as goal

pub returns-then-body-start : goal.returns-then-body-start
returns-then-body-start c = let a = c.args in block-past a.body.now a.self.start a.self.len (omega arith)

pub returns-then-len-body : goal.returns-then-len-body
returns-then-len-body c = let a = c.args in block-whole a.body.now a.self.start a.self.len

pub returns : goal.returns
returns c = let a = c.args in block-clipped a.body.now a.self.start a.self.len (omega arith)
