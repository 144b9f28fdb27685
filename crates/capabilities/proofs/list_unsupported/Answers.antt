use Rattle.capabilities.proofs.Calls.{calls}
use Rattle.capabilities.proofs.list_unsupported.Goals as goal

-- a list that is always long enough, and the stream walked once
pub returns-then-s-offsets : goal.returns-then-s-offsets
returns-then-s-offsets c = search calls

pub returns : goal.returns
returns c = search calls
