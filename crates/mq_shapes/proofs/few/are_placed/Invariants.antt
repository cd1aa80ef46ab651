use Rattle.std.proofs.Common.{take}
use Rattle.mq_shapes.specs.Few.{ArePlaced}
use Rattle.mq_unify.specs.Rows.{lent_rows}
use Rattle.mq_shapes.proofs.few.are_placed.Given as goal

abbrev pub invariant-loop-row : goal.invariant-loop-row
invariant-loop-row l = ArePlaced l.user l.place (lent_rows (take l.row-index l.rows))
