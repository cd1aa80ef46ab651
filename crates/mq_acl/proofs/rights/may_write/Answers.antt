use Rattle.std.proofs.Common.{rules}
use Rattle.mq_acl.specs.AccessLists.{allowed}
use Rattle.mq_acl.proofs.rights.may_write.Goals as goal

pub returns-in-Some : goal.returns-in-Some
unfolding allowed
returns-in-Some c = search rules
