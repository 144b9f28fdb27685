use mathlib.Core.Path.{◌∙◌}
use Rattle.capabilities.proofs.Messages.{contained}
use Rattle.capabilities.proofs.Support.of.Goals as goal

pub returns-clause-channel_lists_value : goal.returns-clause-channel_lists_value
returns-clause-channel_lists_value c = c.contains.ensures.value ∙ contained c.args.capabilities.now 1

pub returns-clause-external_sources_value : goal.returns-clause-external_sources_value
returns-clause-external_sources_value c = c.contains-2.ensures.value ∙ contained c.args.capabilities.now 3
