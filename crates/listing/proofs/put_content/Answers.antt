use Rattle.listing.proofs.Reports.{contents, content-refusal}
use Rattle.listing.proofs.put_content.Goals as goal

pub returns-in-Message : goal.returns-in-Message
returns-in-Message c = search contents

pub returns-in-UnknownLayer : goal.returns-in-UnknownLayer
returns-in-UnknownLayer c = search contents

pub returns-in-UnknownKind : goal.returns-in-UnknownKind
returns-in-UnknownKind c = search contents

pub returns-in-Fragment : goal.returns-in-Fragment
returns-in-Fragment c = search contents

pub returns-in-Refused : goal.returns-in-Refused
returns-in-Refused c = content-refusal c.args.s.now c.args.p c.in-Refused.is c.put_refusal.ensures
