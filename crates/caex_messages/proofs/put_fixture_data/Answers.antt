use Rattle.lines.proofs.Fields.{fields}
use Rattle.caex_messages.proofs.put_fixture_data.Goals as goal

pub returns : goal.returns
returns c = search fields depth 12
