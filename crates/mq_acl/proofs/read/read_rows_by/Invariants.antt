use Rattle.std.proofs.Common.{length}
use Rattle.mq_acl.specs.Lines.{lines}
use Rattle.mq_acl.specs.Views.{lines_left, row_views, line_views, user_who}
use Rattle.mq_acl.proofs.RowLemmas.{IsReadTo}
use Rattle.mq_acl.proofs.read.read_rows_by.Given as goal

abbrev pub invariant-loop-rest : goal.invariant-loop-rest
invariant-loop-rest l = IsReadTo l.fn.rules (lines l.fn.text) (lines_left l.rest) l.number (user_who l.user)
    (row_views l.rows.items) (line_views l.rows.items)

abbrev pub decreases-loop-rest : goal.decreases-loop-rest
decreases-loop-rest l = length (lines_left l.rest)
