use Rattle.std.proofs.Common.{◌≡◌, take}
use Rattle.mq_acl.specs.Views.{row_views}
use Rattle.mq_witness.specs.Rows.{lent_rows}
use Rattle.mq_witness.proofs.ruled_texts.lent.Given as goal

abbrev pub invariant-loop-row : goal.invariant-loop-row
invariant-loop-row l = lent_rows l.all.items ≡ row_views (take l.row-index l.rows)
