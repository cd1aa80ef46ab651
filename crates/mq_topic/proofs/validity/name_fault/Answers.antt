use Rattle.std.proofs.Common.{rules}
use Rattle.mq_topic.proofs.validity.name_fault.Goals as goal

pub returns : goal.returns
returns c = search rules
