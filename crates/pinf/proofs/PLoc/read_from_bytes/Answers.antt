use Rattle.refusal.proofs.Handed.{handed}
use Rattle.wire.proofs.Reading.{reading}
use Rattle.pinf.proofs.PLoc.read_from_bytes.Goals as goal

pub returns-in_err-listening_tcp_port : goal.returns-in_err-listening_tcp_port
returns-in_err-listening_tcp_port c = rw (handed c.from_residual.ensures) (search (reading, c.in_err-listening_tcp_port.ensures))

pub returns-in_err-kind : goal.returns-in_err-kind
returns-in_err-kind c = rw (handed c.from_residual-in_err-kind.ensures) (search (reading, c.in_ok-listening_tcp_port.ensures, c.in_err-kind.ensures))

pub returns-in_err-name : goal.returns-in_err-name
returns-in_err-name c = rw (handed c.from_residual-in_err-name.ensures) (search (reading, c.in_ok-listening_tcp_port.ensures, c.in_ok-kind.ensures, c.in_err-name.ensures))

pub returns-in_err-state : goal.returns-in_err-state
returns-in_err-state c = rw (handed c.from_residual-in_err-state.ensures) (search (reading, c.in_ok-listening_tcp_port.ensures, c.in_ok-kind.ensures, c.in_ok-name.ensures, c.in_err-state.ensures))

pub returns : goal.returns
returns c = search (reading, c.in_ok-listening_tcp_port.ensures, c.in_ok-kind.ensures, c.in_ok-name.ensures, c.in_ok-state.ensures)
