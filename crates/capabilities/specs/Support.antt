-- What the code keeps of a receiver's capabilities, and what the call's answer says.
use Rattle.std.specs.Prelude.{ℕ, Bool, List, Result, Ok, Err}
use Rattle.protocol.specs.Kind.{Kind}
use Rattle.refusal.specs.Says.{number_says}
use Rattle.supporting.specs.Offsets.{lacking}
use Rattle.capabilities.specs.declared.Support.{Support}
use Rattle.capabilities.specs.declared.Unsupported.{Unsupported}
use Rattle.capabilities.specs.declared.TooFewPlaces.{TooFewPlaces}

-- the kinds that are not supported then
abbrev pub lacked_by : Support → Kind → Bool
lacked_by s k = lacking s.channel_lists s.external_sources k

-- the number of the call, how many offsets there are, the number of the walk's end, and the lent list afterwards
abbrev pub call_says : Result Unsupported TooFewPlaces → List ℕ → ℕ × ℕ × ℕ × List ℕ
call_says (Ok x) out = (0, x.count, number_says x.end, out)
call_says (Err few) out = (13, few.found.count, number_says few.found.end, out)
