use Rattle.std.proofs.Common.{rules}
use Rattle.mq_acl.proofs.read.read_line_into.Goals as goal

pub returns-clause-ok : goal.returns-clause-ok
returns-clause-ok c = search rules
