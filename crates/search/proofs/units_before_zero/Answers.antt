use Rattle.search.proofs.Free.{free-join, first-free}
use Rattle.search.proofs.Zero.{units-are, units-none, units-found, units-near}
use native.Mathlib.Omega.{arith}
use Rattle.search.proofs.units_before_zero.Goals as goal

pub returns-then-s-at : goal.returns-then-s-at
returns-then-s-at c = units-none _ _ c.if-s-at.true

pub returns-then-count-lt24 : goal.returns-then-count-lt24
returns-then-count-lt24 c = let a = c.args in
    let r = c.first_unit_one_by_one.ensures in
    let counted = units-are a.s.now a.at r.passed (omega (arith, r.within)) (λ h. r.ends (omega (arith, h))) in
    units-found a.s.now a.at counted c.place_before.ensures

pub returns-then-r-lt24 : goal.returns-then-r-lt24
returns-then-r-lt24 c = let a = c.args in
    let r = c.first_of_24_units-r.ensures in
    units-near a.s.now a.at (units-are a.s.now a.at r.passed (omega arith) (λ h. r.ends c.if-r-lt24.true)) (omega arith)

pub returns : goal.returns
returns c = let a = c.args in
    let near = first-free c.first_of_24_units-r.ensures c.if-r-lt24.false in
    let far = c.first_unit_by_blocks.ensures in
    let counted = units-are a.s.now a.at (free-join near far.passed) (omega (arith, far.within)) (λ h. far.ends (omega (arith, h))) in
    units-found a.s.now a.at counted c.place_before-2.ensures
