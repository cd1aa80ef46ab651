use Rattle.std.proofs.Common.{rules}
use Rattle.mq_topic.proofs.subscription.SubFilter.clone.Goals as goal

pub returns : goal.returns
returns c = search rules
