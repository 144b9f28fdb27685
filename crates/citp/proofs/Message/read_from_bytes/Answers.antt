use mathlib.Core.Path.{refl}
use Rattle.std.proofs.Common.{rules}
use Rattle.citp.specs.declared.Message.TheVariants as message
use Rattle.citp.proofs.Reports.{As, read-as}
use Rattle.pinf.specs.Says as pinf
use Rattle.sdmx.specs.Says as sdmx
use Rattle.fptc.specs.Says as fptc
use Rattle.fsel.specs.Says as fsel
use Rattle.finf.specs.Says as finf
use Rattle.caex.specs.Says as caex
use Rattle.fptc.specs.declared.Message as fptc-message
use Rattle.citp.proofs.Message.read_from_bytes.Goals as goal

pub returns-in_ok-read_from_bytes-in-Pinf-clause-fields : goal.returns-in_ok-read_from_bytes-in-Pinf-clause-fields
returns-in_ok-read_from_bytes-in-Pinf-clause-fields c =
    let read = c.in_ok-read_from_bytes-in-Pinf in
    let mapped : As message.Pinf read.field-0 c.map.result = search rules in
    rw c.in-Pinf.is (read-as pinf.message_kind pinf.message_view message.Pinf (λ m e. refl) read.field-0 c.map.result mapped read.ensures)

pub returns-in_ok-read_from_bytes-in-Sdmx-clause-fields : goal.returns-in_ok-read_from_bytes-in-Sdmx-clause-fields
returns-in_ok-read_from_bytes-in-Sdmx-clause-fields c =
    let read = c.in_ok-read_from_bytes-in-Sdmx in
    let mapped : As message.Sdmx read.field-0 c.map-in-Sdmx.result = search rules in
    rw c.in-Sdmx.is (read-as sdmx.message_kind sdmx.message_view message.Sdmx (λ m e. refl) read.field-0 c.map-in-Sdmx.result mapped read.ensures)

pub returns-in_ok-read_from_bytes-in-Fptc-clause-fields : goal.returns-in_ok-read_from_bytes-in-Fptc-clause-fields
returns-in_ok-read_from_bytes-in-Fptc-clause-fields c =
    let read = c.in_ok-read_from_bytes-in-Fptc in
    let of = λ (m : fptc-message.Message). message.Fptc m c.args.h.content_hint in
    let mapped : As of read.field-0 c.map-in-Fptc.result = search rules in
    rw c.in-Fptc.is (read-as fptc.message_kind fptc.message_view of (λ m e. refl) read.field-0 c.map-in-Fptc.result mapped read.ensures)

pub returns-in_ok-read_from_bytes-in-Fsel-clause-fields : goal.returns-in_ok-read_from_bytes-in-Fsel-clause-fields
returns-in_ok-read_from_bytes-in-Fsel-clause-fields c =
    let read = c.in_ok-read_from_bytes-in-Fsel in
    let mapped : As message.Fsel read.field-0 c.map-in-Fsel.result = search rules in
    rw c.in-Fsel.is (read-as fsel.message_kind fsel.message_view message.Fsel (λ m e. refl) read.field-0 c.map-in-Fsel.result mapped read.ensures)

pub returns-in_ok-read_from_bytes-in-Finf-clause-fields : goal.returns-in_ok-read_from_bytes-in-Finf-clause-fields
returns-in_ok-read_from_bytes-in-Finf-clause-fields c =
    let read = c.in_ok-read_from_bytes-in-Finf in
    let mapped : As message.Finf read.field-0 c.map-in-Finf.result = search rules in
    rw c.in-Finf.is (read-as finf.message_kind finf.message_view message.Finf (λ m e. refl) read.field-0 c.map-in-Finf.result mapped read.ensures)

pub returns-in_ok-read_from_bytes-in-Caex-clause-fields : goal.returns-in_ok-read_from_bytes-in-Caex-clause-fields
returns-in_ok-read_from_bytes-in-Caex-clause-fields c =
    let read = c.in_ok-read_from_bytes-in-Caex in
    let mapped : As message.Caex read.field-0 c.map-in-Caex.result = search rules in
    rw c.in-Caex.is (read-as caex.message_kind caex.message_view message.Caex (λ m e. refl) read.field-0 c.map-in-Caex.result mapped read.ensures)
