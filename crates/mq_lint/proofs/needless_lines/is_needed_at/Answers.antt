use Rattle.std.proofs.Common.{ap, sym, ◌∙◌}
use Rattle.mq_acl.specs.AccessLists.{allow_by}
use Rattle.mq_acl.specs.Views.{row_view}
use Rattle.mq_witness.specs.Rows.{lent_rows}
use Rattle.mq_lint.specs.Left.{left_of}
use Rattle.mq_lint.proofs.CalledLemmas.{out_of}
use Rattle.mq_lint.proofs.ListLemmas.{row_inside}
use Rattle.mq_lint.proofs.SameLemmas.{among_gone, gone_already, has_contained, has_left}
use Rattle.mq_lint.proofs.needless_lines.is_needed_at.Goals as goal

pub returns-then-is_out-clause-needless : goal.returns-then-is_out-clause-needless
returns-then-is_out-clause-needless c = λ _ client name user direction a v.
    let asked = c.args.lint.now.asked in
    let called = lent_rows c.args.called.now.called.items in
    let row = row_view c.args.row.now in
    ap (λ rows. allow_by asked.rules rows client user name direction)
    (sym (gone_already row (left_of asked c.args.called.now)
    (among_gone called row asked.rows
    (out_of c.args.called.now.rows.now c.args.lint.now.rows.now called c.args.place c.args.row.now
    c.is_out.result c.requires.rows c.is_out.ensures c.requires.row ∙ c.if-is_out.true))))

pub is_needed-requires-clause-inside : goal.is_needed-requires-clause-inside
is_needed-requires-clause-inside c =
    let asked = c.args.lint.now.asked in
    let called = lent_rows c.args.called.now.called.items in
    let row = row_view c.args.row.now in
    has_left called row asked.rows
    (out_of c.args.called.now.rows.now c.args.lint.now.rows.now called c.args.place c.args.row.now
    c.is_out.result c.requires.rows c.is_out.ensures c.requires.row ∙ c.if-is_out.false)
    (has_contained row asked.rows
    (row_inside c.args.lint.now.rows.now asked c.args.place c.args.row.now
    c.args.lint.now.is_lint.rows_are c.requires.place c.requires.row))
