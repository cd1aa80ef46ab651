use Rattle.std.proofs.Common.{rules}
use Rattle.mq_subscriptions.proofs.subscriptions.filter_entry.is_held_back.Goals as goal

pub returns-then-options : goal.returns-then-options
returns-then-options c = search rules
