use Rattle.refusal.proofs.Handed.{handed}
use Rattle.wire.proofs.Reading.{reading}
use Rattle.fsel.proofs.Sele.read_from_bytes.Goals as goal

pub returns-in_err-complete : goal.returns-in_err-complete
returns-in_err-complete c = rw (handed c.from_residual.ensures) (search (reading, c.in_err-complete.ensures))

pub returns-in_err-reserved : goal.returns-in_err-reserved
returns-in_err-reserved c = rw (handed c.from_residual-in_err-reserved.ensures) (search (reading, c.in_ok-complete.ensures, c.in_err-reserved.ensures))

pub returns-in_err-fixture_identifiers : goal.returns-in_err-fixture_identifiers
returns-in_err-fixture_identifiers c = rw (handed c.from_residual-in_err-fixture_identifiers.ensures) (search (
  reading,
  c.in_ok-complete.ensures,
  c.in_ok-reserved.ensures,
  c.in_err-fixture_identifiers.ensures,
))

pub returns : goal.returns
returns c = search (reading, c.in_ok-complete.ensures, c.in_ok-reserved.ensures, c.in_ok-fixture_identifiers.ensures)
