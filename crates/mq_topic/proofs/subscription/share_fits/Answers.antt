use Rattle.std.proofs.Common.{rules}
use Rattle.mq_topic.proofs.subscription.share_fits.Goals as goal

pub returns-then-is_plain : goal.returns-then-is_plain
returns-then-is_plain c = search rules
