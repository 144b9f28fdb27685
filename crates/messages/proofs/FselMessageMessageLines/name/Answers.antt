use Rattle.std.proofs.Common.{refl}
use Rattle.messages.proofs.FselMessageMessageLines.name.Goals as goal

pub returns-in-Sele : goal.returns-in-Sele
returns-in-Sele c = rw c.in-Sele.is refl

pub returns-in-DeSe : goal.returns-in-DeSe
returns-in-DeSe c = rw c.in-DeSe.is refl
