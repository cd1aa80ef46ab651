use Rattle.std.proofs.lemmas.Bool.{not-false}
use Rattle.mq_acl.specs.Views.{row_view}
use Rattle.mq_lint.proofs.ListLemmas.{denies_some}
use Rattle.mq_lint.proofs.needless_lines.denies_nothing.Goals as goal

pub returns-clause-something : goal.returns-clause-something
returns-clause-something c = λ met.
    denies_some c.args.lint.now.rows.now c.args.lint.now.asked (row_view c.args.row.now)
    c.args.row.now c.args.lint.now.is_lint.rows_are
    (c.in_ok-met.ensures.some (not-false c.in_ok-met.met met))
