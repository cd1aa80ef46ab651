use Rattle.std.proofs.Common.{rules}
use Rattle.mq_world.proofs.limits.Limits.new.Goals as goal

pub returns : goal.returns
returns c = search rules
