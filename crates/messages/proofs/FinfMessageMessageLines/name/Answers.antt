use Rattle.std.proofs.Common.{refl}
use Rattle.messages.proofs.FinfMessageMessageLines.name.Goals as goal

pub returns-in-SFra : goal.returns-in-SFra
returns-in-SFra c = rw c.in-SFra.is refl

pub returns-in-Fram : goal.returns-in-Fram
returns-in-Fram c = rw c.in-Fram.is refl
