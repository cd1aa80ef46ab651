use Rattle.std.proofs.Common.{rules}
use Rattle.mq_topic.proofs.matching.PlainLevelTest.passes.Goals as goal

pub returns-else-eq : goal.returns-else-eq
returns-else-eq c = search rules
