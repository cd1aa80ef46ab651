use Rattle.std.proofs.Common.{rules}
use Rattle.mq_cli.proofs.program.limits.Goals as goal

pub returns : goal.returns
returns c = search rules
