use Rattle.std.proofs.Common.{rules}
use Rattle.mq_topic.proofs.TextLemmas.{name_is_filter}
use Rattle.mq_topic.proofs.name.TopicNameLevelText.text.Goals as goal

pub returns-clause-text : goal.returns-clause-text
returns-clause-text c = search (rules, name_is_filter)

pub returns-clause-valid : goal.returns-clause-valid
returns-clause-valid c = search (rules, name_is_filter)

pub returns-clause-name : goal.returns-clause-name
returns-clause-name c = search (rules, name_is_filter)
