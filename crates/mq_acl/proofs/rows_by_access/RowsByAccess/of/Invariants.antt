use Rattle.mq_acl.specs.RowsByAccess.{IsSplit}
use Rattle.mq_acl.proofs.rows_by_access.RowsByAccess.of.Given as goal

abbrev pub invariant-loop-row : goal.invariant-loop-row
invariant-loop-row l = IsSplit l.yielded l.by_access
