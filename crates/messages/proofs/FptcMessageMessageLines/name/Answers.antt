use Rattle.std.proofs.Common.{refl}
use Rattle.messages.proofs.FptcMessageMessageLines.name.Goals as goal

pub returns-in-Ptch : goal.returns-in-Ptch
returns-in-Ptch c = rw c.in-Ptch.is refl

pub returns-in-UPtc : goal.returns-in-UPtc
returns-in-UPtc c = rw c.in-UPtc.is refl

pub returns-in-SPtc : goal.returns-in-SPtc
returns-in-SPtc c = rw c.in-SPtc.is refl
