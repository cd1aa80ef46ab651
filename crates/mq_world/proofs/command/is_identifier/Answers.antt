use Rattle.std.proofs.Common.{rules}
use Rattle.mq_world.proofs.command.is_identifier.Goals as goal

pub returns : goal.returns
returns c = search rules
