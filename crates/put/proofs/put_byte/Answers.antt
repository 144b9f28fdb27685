use mathlib.Core.Path.{refl, sym}
use native.Mathlib.Omega.{arith}
use lib.Seq.{set_out}
use Rattle.put.proofs.put_byte.Goals as goal

pub returns-then-at-out : goal.returns-then-at-out
returns-then-at-out c = record { stops = omega arith; stored = refl }

pub returns : goal.returns
returns c = record { stops = omega arith; stored = sym (set_out _ _ _ c.if-at-out.false) }
