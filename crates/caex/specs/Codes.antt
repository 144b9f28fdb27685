-- The codes of a fixture list's type byte.
use Rattle.std.specs.Prelude.{ℕ}
use Rattle.caex.specs.declared.FixtureListMessageType.{FixtureListMessageType}
use Rattle.caex.specs.declared.FixtureListMessageType.TheVariants.{ExistingPatchList, NewFixture, ExchangeFixture}

-- the code of each type
abbrev pub message_type_code : FixtureListMessageType → ℕ
message_type_code ExistingPatchList = 0
message_type_code NewFixture = 1
message_type_code ExchangeFixture = 2
