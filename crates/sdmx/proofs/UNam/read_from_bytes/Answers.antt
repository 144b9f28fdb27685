use Rattle.refusal.proofs.Handed.{handed}
use Rattle.wire.proofs.Reading.{reading}
use Rattle.sdmx.proofs.UNam.read_from_bytes.Goals as goal

pub returns-in_err-universe_index : goal.returns-in_err-universe_index
returns-in_err-universe_index c = rw (handed c.from_residual.ensures) (search (reading, c.in_err-universe_index.ensures))

pub returns-in_err-universe_name : goal.returns-in_err-universe_name
returns-in_err-universe_name c =
    rw (handed c.from_residual-in_err-universe_name.ensures)
    (search (reading, c.in_ok-universe_index.ensures, c.in_err-universe_name.ensures))

pub returns : goal.returns
returns c = search (reading, c.in_ok-universe_index.ensures, c.in_ok-universe_name.ensures)
