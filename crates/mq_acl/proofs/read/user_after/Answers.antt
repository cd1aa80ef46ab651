use Rattle.std.proofs.Common.{rules}
use Rattle.mq_acl.proofs.read.user_after.Goals as goal

pub returns-in-User : goal.returns-in-User
returns-in-User c = search rules
