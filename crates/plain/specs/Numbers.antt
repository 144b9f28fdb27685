-- The numbers of a fixture's data as plain fields.
use Rattle.std.specs.Prelude.{ℕ, List}
use Rattle.format.specs.Format.{Value}
use Rattle.protocol.specs.Kind.{fixture_data_format}
use Rattle.fixture.specs.Says.{Numbers}
use Rattle.plain.specs.declared.numbers.FixtureNumbers.{FixtureNumbers}

-- patched, universe, universe_channel, channel, and the floats by their bits
abbrev pub flat_numbers : Numbers → FixtureNumbers
flat_numbers (a, b, c, d, (px, (py, (pz, (ax, (ay, az)))))) =
    record { patched = a; universe = b; universe_channel = c; channel = d; position_x = px; position_y = py; position_z = pz; angle_x = ax; angle_y = ay; angle_z = az }

abbrev pub numbers_in : FixtureNumbers → Numbers
numbers_in x =
    (x.patched, x.universe, x.universe_channel, x.channel, (x.position_x, (x.position_y, (x.position_z, (x.angle_x, (x.angle_y, x.angle_z))))))

-- with the strings, in wire order
abbrev pub value_of : FixtureNumbers → (unit circuit note : List ℕ) → Value fixture_data_format
value_of x unit circuit note =
    let n = numbers_in x in
    (n.0, (n.1, (n.2, (unit, (n.3, (circuit, (note, n.4)))))))
