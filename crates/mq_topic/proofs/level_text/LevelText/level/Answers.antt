use Rattle.std.proofs.Common.{rules}
use Rattle.mq_topic.proofs.level_text.LevelText.level.Goals as goal

pub returns : goal.returns
returns c = search rules
