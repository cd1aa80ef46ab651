use Rattle.std.proofs.Common.{rules}
use Rattle.mq_run.proofs.outcome.exit_status.Goals as goal

pub returns-in-Ok-2 : goal.returns-in-Ok-2
returns-in-Ok-2 c = search rules
