use Rattle.std.proofs.Common.{refl}
use Rattle.messages.proofs.SdmxMessageMessageLines.name.Goals as goal

pub returns-in-Capa : goal.returns-in-Capa
returns-in-Capa c = rw c.in-Capa.is refl

pub returns-in-UNam : goal.returns-in-UNam
returns-in-UNam c = rw c.in-UNam.is refl

pub returns-in-ChBk : goal.returns-in-ChBk
returns-in-ChBk c = rw c.in-ChBk.is refl

pub returns-in-ChLs : goal.returns-in-ChLs
returns-in-ChLs c = rw c.in-ChLs.is refl

pub returns-in-Sxus : goal.returns-in-Sxus
returns-in-Sxus c = rw c.in-Sxus.is refl
