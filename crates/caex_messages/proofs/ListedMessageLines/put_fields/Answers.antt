use Rattle.lines.proofs.Fields.{fields}
use Rattle.names.proofs.Messages.{fields-case}
use Rattle.caex.specs.Says.{message_kind, message_view}
use Rattle.caex_messages.proofs.ListedMessageLines.put_fields.Goals as goal

pub returns-in-EnterShow : goal.returns-in-EnterShow
returns-in-EnterShow c = search (fields-case message_kind message_view, fields)

pub returns-in-FixtureList : goal.returns-in-FixtureList
returns-in-FixtureList c = search (fields-case message_kind message_view, fields)

pub returns-in-FixtureRemove : goal.returns-in-FixtureRemove
returns-in-FixtureRemove c = search (fields-case message_kind message_view, fields)

pub returns-in-LaserFeedControl : goal.returns-in-LaserFeedControl
returns-in-LaserFeedControl c = search (fields-case message_kind message_view, fields)

pub returns-in-LaserFeedList : goal.returns-in-LaserFeedList
returns-in-LaserFeedList c = search (fields-case message_kind message_view, fields)

pub returns-in-LaserFeedFrame : goal.returns-in-LaserFeedFrame
returns-in-LaserFeedFrame c = search (fields-case message_kind message_view, fields)
