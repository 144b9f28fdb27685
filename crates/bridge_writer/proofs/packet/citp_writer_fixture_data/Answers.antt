use Rattle.std.proofs.Common.{ℕ, List, ◌≡◌, ap}
use Rattle.format.specs.Format.{Value}
use Rattle.protocol.specs.Kind.{fixture_data_format}
use Rattle.fixture.specs.Says.{Numbers, data_numbers}
use Rattle.fixture.specs.Write.{data_value}
use Rattle.fixture.specs.declared.FixtureData.{FixtureData}
use Rattle.plain.specs.Numbers.{numbers_in, value_of}
use Rattle.plain.specs.declared.numbers.FixtureNumbers.{FixtureNumbers}
use Rattle.plain.proofs.Calls.{call-is}
use Rattle.bridge_writer.proofs.packet.citp_writer_fixture_data.Goals as goal

-- with the strings, a fixture's data is that of its plain fields
value-is : (x : FixtureData) (d : FixtureNumbers) (unit circuit note : List ℕ) → data_numbers x ≡ numbers_in d
    → ◌≡◌ {A = Value fixture_data_format} (data_value x unit circuit note) (value_of d unit circuit note)
value-is x d unit circuit note e = ap (λ (n : Numbers). (n.0, (n.1, (n.2, (unit, (n.3, (circuit, (note, n.4)))))))) e

pub returns : goal.returns
returns c = rw (← value-is _ _ _ _ _ c.fixture_data-x.ensures.0) (call-is _ _ _ _ _ c.state.ensures c.fixture_data.ensures c.answer.ensures)
