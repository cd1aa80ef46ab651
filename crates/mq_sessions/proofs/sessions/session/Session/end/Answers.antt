use Rattle.std.proofs.Common.{rules}
use Rattle.mq_sessions.proofs.sessions.session.Session.end.Goals as goal

pub returns-in-Connected : goal.returns-in-Connected
returns-in-Connected c = search rules
