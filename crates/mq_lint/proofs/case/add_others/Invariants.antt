use Rattle.std.proofs.Common.{◌≡◌, ◌++◌, take}
use Rattle.mq_acl.specs.Views.{row_view}
use Rattle.mq_witness.specs.Rows.{lent_rows}
use Rattle.mq_differences.specs.Marks.{views_of}
use Rattle.mq_lint.specs.Needless.{without, without_all}
use Rattle.mq_lint.proofs.case.add_others.Given as goal

-- those of the first are added
abbrev pub invariant-loop-m : goal.invariant-loop-m
invariant-loop-m l = lent_rows l.others.items
    ≡ lent_rows l.fn.others.items ++ without (row_view l.row)
    (without_all (lent_rows l.called.called.items) (views_of (take l.m-index l.rows)))
