use Rattle.std.proofs.Common.{rules}
use Rattle.mq_acl.proofs.check.RowLevelsLevelTest.passes.Goals as goal

pub returns-then-eq : goal.returns-then-eq
returns-then-eq c = search rules
