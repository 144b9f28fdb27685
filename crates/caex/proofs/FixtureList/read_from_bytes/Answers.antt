use Rattle.refusal.proofs.Handed.{handed}
use Rattle.wire.proofs.Reading.{reading}
use Rattle.fixture.proofs.Codes.{codes, code-known}
use Rattle.caex.proofs.FixtureList.read_from_bytes.Goals as goal

pub returns-in_err-code : goal.returns-in_err-code
returns-in_err-code c = rw (handed c.from_residual.ensures) (search (reading, codes, c.in_err-code.ensures))

pub returns-in_err-message_type : goal.returns-in_err-message_type
returns-in_err-message_type c =
    rw (handed c.from_residual-in_err-message_type.ensures)
    (search (reading, codes, c.in_ok-code.ensures, c.in_err-message_type.ensures))

pub returns-in_err-fixtures : goal.returns-in_err-fixtures
returns-in_err-fixtures c =
    let type = code-known 3 9 _ _ _ _ _ c.in_ok-code.ensures c.in_ok-message_type.ensures in
    rw (handed c.from_residual-in_err-fixtures.ensures) (search (reading, type, c.in_err-fixtures.ensures))

pub returns : goal.returns
returns c = search (reading, codes, c.in_ok-code.ensures, c.in_ok-message_type.ensures, c.in_ok-fixtures.ensures)
