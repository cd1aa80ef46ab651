use Rattle.std.proofs.Common.{rules}
use Rattle.mq_subscriptions.proofs.subscriptions.group.Group.next.Goals as goal

pub returns-then-passes : goal.returns-then-passes
returns-then-passes g c = search rules
