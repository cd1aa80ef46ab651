use Rattle.std.proofs.Common.{refl}
use Rattle.mq_ask.proofs.rows.not_taken.Goals as goal

pub returns-in-Some : goal.returns-in-Some
returns-in-Some c fault = (refl, (c.args.fault.line, (c.args.fault, fault, refl)))
