-- The answer for an entry of the listing, if any.
use Rattle.std.specs.Prelude.{Option, Some, None}
use Rattle.std.proofs.Math.Option.{none, some}
use Rattle.std.proofs.Math.Option as math
use Rattle.patching.specs.Entry.{Fields}
use Rattle.book.specs.declared.Entry.{Entry}

abbrev pub struct_of : Fields → Entry
struct_of f = record { fixture_identifier = f.0; universe = f.1; channel = f.2; channel_count = f.3 }

-- the entry with these fields, or none
abbrev pub listed_of : math.Option Fields → Option Entry
listed_of (some f) = Some (struct_of f)
listed_of none = None
