use mathlib.Core.Path.{refl}
use Rattle.format.proofs.Chain.{met}
use Rattle.header.specs.Says.{header_value}
use Rattle.refusal.proofs.Exact.{never-none}
use Rattle.refusal.proofs.Handed.{handed}
use Rattle.wire.specs.Says.{says}
use Rattle.citp.proofs.Steps.{step_end, step-short, header-there, step-stopped, step-packet}
use Rattle.citp.proofs.Cursor.step.Goals as goal

pub returns-then-s-at : goal.returns-then-s-at
returns-then-s-at c = let a = c.args in step_end a.s.now a.self.at c.if-s-at.true

pub returns-then-rest-lt-LENGTH : goal.returns-then-rest-lt-LENGTH
returns-then-rest-lt-LENGTH c = let a = c.args in step-short a.s.now a.self.at c.if-s-at.false c.if-rest-lt-LENGTH.true

pub unwrap-requires : goal.unwrap-requires
unwrap-requires c = let a = c.args in header-there a.s.now a.self.at c.if-rest-lt-LENGTH.false c.read_from_bytes.result c.read_from_bytes.ensures

pub returns-in_err-packet_start : goal.returns-in_err-packet_start
returns-in_err-packet_start c = let a = c.args in
    let h = met (says header_value) c.read_from_bytes.ensures c.unwrap.ensures in
    rw (handed c.from_residual.ensures) (step-stopped a.s.now a.self.at h c.in_err-packet_start.ensures (never-none c.in_err-packet_start.field-0.0))

pub returns : goal.returns
returns c = let a = c.args in
    let h = met (says header_value) c.read_from_bytes.ensures c.unwrap.ensures in
    step-packet a.s.now a.self.at h c.in_ok-packet_start.ensures refl refl c.first_packet.ensures c.packet_report-report.ensures
