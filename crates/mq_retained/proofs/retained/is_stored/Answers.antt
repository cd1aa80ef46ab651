use Rattle.std.proofs.Common.{rules}
use Rattle.mq_retained.proofs.retained.is_stored.Goals as goal

pub returns-then-not-is_empty : goal.returns-then-not-is_empty
returns-then-not-is_empty c = search rules

pub returns-else-not-is_empty : goal.returns-else-not-is_empty
returns-else-not-is_empty c = search rules
