use Rattle.std.proofs.Common.{rules}
use Rattle.mq_retained.proofs.retained.copies.may_get.Goals as goal

pub returns-after-receiver : goal.returns-after-receiver
returns-after-receiver c = search rules
