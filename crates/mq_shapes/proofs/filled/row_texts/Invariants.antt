use Rattle.std.proofs.Common.{◌≡◌, map, take}
use Rattle.mq_shapes.specs.Filled.{row_levels, text_levels}
use Rattle.mq_unify.specs.Rows.{lent_rows}
use Rattle.mq_shapes.proofs.filled.row_texts.Given as goal

abbrev pub invariant-loop-row : goal.invariant-loop-row
invariant-loop-row l = text_levels l.texts.items
    ≡ map (row_levels l.names.client.now l.names.user.now) (lent_rows (take l.row-index l.rows))
