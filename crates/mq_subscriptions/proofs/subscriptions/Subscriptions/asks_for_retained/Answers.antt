use Rattle.std.proofs.Common.{rules}
use Rattle.mq_subscriptions.proofs.subscriptions.Subscriptions.asks_for_retained.Goals as goal

pub returns-in-1 : goal.returns-in-1
returns-in-1 c = search rules

pub returns-in-0 : goal.returns-in-0
returns-in-0 c = search rules
