use Rattle.std.proofs.Common.{rules}
use Rattle.mq_run.proofs.write.flush.Goals as goal

pub returns-in-Err-clause-flushed : goal.returns-in-Err-clause-flushed
returns-in-Err-clause-flushed c = search rules

pub returns-in-Err-clause-counted : goal.returns-in-Err-clause-counted
returns-in-Err-clause-counted c = search rules
