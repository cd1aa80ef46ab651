use Rattle.mq_acl.specs.Views.{row_view}
use Rattle.mq_lint.proofs.ListLemmas.{row_inside}
use Rattle.mq_lint.proofs.SameLemmas.{has_contained}
use Rattle.mq_lint.proofs.needless_lines.first_kind.Goals as goal

pub kind_alone-requires-clause-inside : goal.kind_alone-requires-clause-inside
kind_alone-requires-clause-inside c =
    has_contained (row_view c.args.row.now) c.args.lint.now.asked.rows
    (row_inside c.args.lint.now.rows.now c.args.lint.now.asked c.args.place c.args.row.now
    c.args.lint.now.is_lint.rows_are c.requires.place c.requires.row)
