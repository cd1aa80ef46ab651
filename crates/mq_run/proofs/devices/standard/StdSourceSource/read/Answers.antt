use Rattle.std.proofs.Common.{rules}
use Rattle.mq_run.proofs.devices.standard.StdSourceSource.read.Goals as goal

pub returns-in-Err-clause-counted : goal.returns-in-Err-clause-counted
returns-in-Err-clause-counted c = search rules
