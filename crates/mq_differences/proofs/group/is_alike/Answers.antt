use Rattle.std.proofs.Common.{rules}
use Rattle.mq_differences.proofs.group.is_alike.Goals as goal

pub returns-then-eq : goal.returns-then-eq
returns-then-eq c = search rules
