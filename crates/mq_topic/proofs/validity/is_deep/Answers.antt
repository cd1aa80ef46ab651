use Rattle.std.proofs.Common.{rules}
use Rattle.mq_topic.proofs.LevelLemmas.{few_levels}
use Rattle.mq_topic.proofs.validity.is_deep.Goals as goal

pub returns-then-text-ge-LEVEL_LIMIT : goal.returns-then-text-ge-LEVEL_LIMIT
returns-then-text-ge-LEVEL_LIMIT c = search (rules, few_levels)

pub returns-else-text-ge-LEVEL_LIMIT : goal.returns-else-text-ge-LEVEL_LIMIT
returns-else-text-ge-LEVEL_LIMIT c = search (rules, few_levels)
