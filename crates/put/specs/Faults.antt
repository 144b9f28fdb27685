-- What is found in a value, and in several.
use Rattle.std.specs.Prelude.{Bool, false, ◌||◌}
use Rattle.format.specs.Format.{Format, Value}
use Rattle.format.specs.Fault.{holds_zero, over_limit, too_long}
use Rattle.put.specs.declared.Faults.{Faults}

abbrev pub none : Faults
none = record { zeros = false; over = false; long = false }

-- what was found before, and what is found in a value
abbrev pub and_of : Faults → (f : Format) → Value f → Faults
and_of x f v = record { zeros = x.zeros || holds_zero f v; over = x.over || over_limit f v; long = x.long || too_long f v }

-- and whether a count is too long
abbrev pub and_long : Faults → Bool → Faults
and_long x b = record { zeros = x.zeros; over = x.over; long = x.long || b }
