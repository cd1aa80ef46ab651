use Rattle.std.proofs.Common.{rules}
use Rattle.mq_sessions.proofs.sessions.queue.queued_copy.Goals as goal

pub returns : goal.returns
returns c = search rules
