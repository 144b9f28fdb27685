use mathlib.Core.Path.{refl}
use borrow.Author.Tests.{lt-ltb, le-ltb}
use Rattle.search.proofs.place_before.Goals as goal

pub returns-then-n-stop : goal.returns-then-n-stop
returns-then-n-stop c = let a = c.args in rw (lt-ltb a.n a.stop c.if-n-stop.true) refl

pub returns-else-n-stop : goal.returns-else-n-stop
returns-else-n-stop c = let a = c.args in rw (le-ltb a.n a.stop c.if-n-stop.false) refl
