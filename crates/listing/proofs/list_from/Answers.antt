use Rattle.listing.proofs.Walks.{part}
use Rattle.listing.proofs.list_from.Goals as goal

pub returns : goal.returns
returns c = rw c.saturating_sub.ensures (part c.put_listing.ensures)
