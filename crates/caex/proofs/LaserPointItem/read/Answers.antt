use Rattle.refusal.proofs.Handed.{handed}
use Rattle.wire.proofs.Reading.{reading}
use Rattle.caex.proofs.LaserPointItem.read.Goals as goal

pub returns-in_err-x_low_byte-clause-fields : goal.returns-in_err-x_low_byte-clause-fields
returns-in_err-x_low_byte-clause-fields c = rw (handed c.from_residual.ensures) (search (reading, c.in_err-x_low_byte.ensures))

pub returns-in_err-y_low_byte-clause-fields : goal.returns-in_err-y_low_byte-clause-fields
returns-in_err-y_low_byte-clause-fields c =
    rw (handed c.from_residual-in_err-y_low_byte.ensures)
    (search (reading, c.in_ok-x_low_byte.ensures, c.in_err-y_low_byte.ensures))

pub returns-in_err-xy_high_nibbles-clause-fields : goal.returns-in_err-xy_high_nibbles-clause-fields
returns-in_err-xy_high_nibbles-clause-fields c =
    rw (handed c.from_residual-in_err-xy_high_nibbles.ensures)
    (search (reading, c.in_ok-x_low_byte.ensures, c.in_ok-y_low_byte.ensures, c.in_err-xy_high_nibbles.ensures))

pub returns-in_err-color-clause-fields : goal.returns-in_err-color-clause-fields
returns-in_err-color-clause-fields c =
    rw (handed c.from_residual-in_err-color.ensures)
    (search (reading, c.in_ok-x_low_byte.ensures, c.in_ok-y_low_byte.ensures, c.in_ok-xy_high_nibbles.ensures, c.in_err-color.ensures))

pub returns-clause-fields : goal.returns-clause-fields
returns-clause-fields c =
    search (reading, c.in_ok-x_low_byte.ensures, c.in_ok-y_low_byte.ensures, c.in_ok-xy_high_nibbles.ensures, c.in_ok-color.ensures) depth 6
