use Rattle.std.proofs.Common.{take}
use Rattle.mq_shapes.specs.Few.{AreWithin}
use Rattle.mq_unify.specs.Rows.{lent_rows}
use Rattle.mq_shapes.proofs.few.longest.Given as goal

abbrev pub invariant-loop-row : goal.invariant-loop-row
invariant-loop-row l = AreWithin l.user l.most (lent_rows (take l.row-index l.rows))
