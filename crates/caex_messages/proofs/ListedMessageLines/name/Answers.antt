use Rattle.std.proofs.Common.{refl}
use Rattle.caex_messages.proofs.ListedMessageLines.name.Goals as goal

pub returns-in-EnterShow : goal.returns-in-EnterShow
returns-in-EnterShow c = rw c.in-EnterShow.is refl

pub returns-in-FixtureList : goal.returns-in-FixtureList
returns-in-FixtureList c = rw c.in-FixtureList.is refl

pub returns-in-FixtureRemove : goal.returns-in-FixtureRemove
returns-in-FixtureRemove c = rw c.in-FixtureRemove.is refl

pub returns-in-LaserFeedControl : goal.returns-in-LaserFeedControl
returns-in-LaserFeedControl c = rw c.in-LaserFeedControl.is refl

pub returns-in-LaserFeedList : goal.returns-in-LaserFeedList
returns-in-LaserFeedList c = rw c.in-LaserFeedList.is refl

pub returns-in-LaserFeedFrame : goal.returns-in-LaserFeedFrame
returns-in-LaserFeedFrame c = rw c.in-LaserFeedFrame.is refl
