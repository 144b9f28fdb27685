use Rattle.refusal.proofs.Handed.{handed}
use Rattle.wire.proofs.Reading.{reading}
use Rattle.fptc.proofs.Ptch.read_from_bytes.Goals as goal

pub returns-in_err-fixture_identifier : goal.returns-in_err-fixture_identifier
returns-in_err-fixture_identifier c = rw (handed c.from_residual.ensures) (search (reading, c.in_err-fixture_identifier.ensures))

pub returns-in_err-universe : goal.returns-in_err-universe
returns-in_err-universe c =
    rw (handed c.from_residual-in_err-universe.ensures)
    (search (reading, c.in_ok-fixture_identifier.ensures, c.in_err-universe.ensures))

pub returns-in_err-reserved : goal.returns-in_err-reserved
returns-in_err-reserved c =
    rw (handed c.from_residual-in_err-reserved.ensures)
    (search (reading, c.in_ok-fixture_identifier.ensures, c.in_ok-universe.ensures, c.in_err-reserved.ensures))

pub returns-in_err-channel : goal.returns-in_err-channel
returns-in_err-channel c =
    rw (handed c.from_residual-in_err-channel.ensures)
    (search (reading, c.in_ok-fixture_identifier.ensures, c.in_ok-universe.ensures, c.in_ok-reserved.ensures, c.in_err-channel.ensures))

pub returns-in_err-channel_count : goal.returns-in_err-channel_count
returns-in_err-channel_count c =
    rw (handed c.from_residual-in_err-channel_count.ensures)
    (search (
      reading,
      c.in_ok-fixture_identifier.ensures,
      c.in_ok-universe.ensures,
      c.in_ok-reserved.ensures,
      c.in_ok-channel.ensures,
      c.in_err-channel_count.ensures,
    ))

pub returns-in_err-fixture_make : goal.returns-in_err-fixture_make
returns-in_err-fixture_make c =
    rw (handed c.from_residual-in_err-fixture_make.ensures)
    (search (
      reading,
      c.in_ok-fixture_identifier.ensures,
      c.in_ok-universe.ensures,
      c.in_ok-reserved.ensures,
      c.in_ok-channel.ensures,
      c.in_ok-channel_count.ensures,
      c.in_err-fixture_make.ensures,
    ) depth 20)

pub returns-in_err-fixture_name : goal.returns-in_err-fixture_name
returns-in_err-fixture_name c =
    rw (handed c.from_residual-in_err-fixture_name.ensures)
    (search (
      reading,
      c.in_ok-fixture_identifier.ensures,
      c.in_ok-universe.ensures,
      c.in_ok-reserved.ensures,
      c.in_ok-channel.ensures,
      c.in_ok-channel_count.ensures,
      c.in_ok-fixture_make.ensures,
      c.in_err-fixture_name.ensures,
    ) depth 20)

pub returns : goal.returns
returns c =
    search (
      reading,
      c.in_ok-fixture_identifier.ensures,
      c.in_ok-universe.ensures,
      c.in_ok-reserved.ensures,
      c.in_ok-channel.ensures,
      c.in_ok-channel_count.ensures,
      c.in_ok-fixture_make.ensures,
      c.in_ok-fixture_name.ensures,
    ) depth 20
