use Rattle.mq_acl.specs.Views.{row_view}
use Rattle.mq_witness.specs.Rows.{lent_rows}
use Rattle.mq_lint.specs.Needless.{MakesNone}
use Rattle.mq_lint.proofs.maker.maker.Given as goal

-- none of the first makes it needless
abbrev pub invariant-loop-place : goal.invariant-loop-place
invariant-loop-place l = MakesNone l.lint.asked.rules l.lint.rows.now
    (lent_rows l.called.called.items) (row_view l.row) l.place
