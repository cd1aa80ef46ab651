use Rattle.std.proofs.Common.{rules}
use Rattle.mq_topic.proofs.name.TopicNamePartialEq.eq.Goals as goal

pub returns : goal.returns
returns c = search rules
