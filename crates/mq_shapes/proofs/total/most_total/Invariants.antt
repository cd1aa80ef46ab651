use Rattle.std.proofs.Common.{◌≤◌}
use Rattle.mq_shapes.specs.Total.{HaveAtMost}
use Rattle.mq_unify.specs.Rows.{lent_rows}
use Rattle.mq_shapes.proofs.total.most_total.Given as goal

abbrev pub invariant-loop-row : goal.invariant-loop-row
invariant-loop-row l = record { few : l.most ≤ 200; within : HaveAtMost (lent_rows l.rows) l.most }
