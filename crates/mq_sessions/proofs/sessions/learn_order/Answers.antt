use Rattle.mq_sessions.proofs.SessionLemmas.{sorted-is}
use Rattle.mq_sessions.proofs.sessions.learn_order.Goals as goal

pub returns : goal.returns
returns c = sorted-is c.args.sessions.now.entries c.len-count.ensures.ordered
