use Rattle.listing.proofs.Reports.{reports}
use Rattle.listing.proofs.put_unknown_kind.Goals as goal

pub returns : goal.returns
returns c = search reports
