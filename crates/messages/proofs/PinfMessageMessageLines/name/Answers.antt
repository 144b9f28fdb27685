use Rattle.std.proofs.Common.{refl}
use Rattle.messages.proofs.PinfMessageMessageLines.name.Goals as goal

pub returns-in-PNam : goal.returns-in-PNam
returns-in-PNam c = rw c.in-PNam.is refl

pub returns-in-PLoc : goal.returns-in-PLoc
returns-in-PLoc c = rw c.in-PLoc.is refl
