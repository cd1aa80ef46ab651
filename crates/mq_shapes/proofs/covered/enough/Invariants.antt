use Rattle.std.proofs.Common.{take}
use Rattle.mq_shapes.specs.Covered.{AreEnough}
use Rattle.mq_unify.specs.Rows.{lent_rows}
use Rattle.mq_shapes.proofs.covered.enough.Given as goal

abbrev pub invariant-loop-row : goal.invariant-loop-row
invariant-loop-row l = AreEnough (lent_rows l.must) (lent_rows (take l.row-index l.cover))
    (lent_rows l.rows.items)
