use Prim.Native.Nat.{ℕ}
use mathlib.Core.Path.{◌≡◌, sym, ap, ◌∙◌}
use mathlib.Core.List.{List}
use native.Mathlib.Omega.{arith}
use Rattle.patching.specs.Entry.{Entry}
use Rattle.book.specs.Scan.{remove_at, insert_at}
use Rattle.book.proofs.Holes.{hole-put}
use Rattle.book.proofs.shift_up.Goals as goal

pub returns : goal.returns
returns c = let l = c.loop-i in
    let a = c.args in
    let n : l.i ≡ a.to = omega arith in
    hole-put l.entries a.to a.entry (omega arith)
    ∙ ap (λ (k : List Entry). insert_at a.to a.entry k) (ap (λ (k : ℕ). remove_at k l.entries) (sym n) ∙ l.invariant.1)
