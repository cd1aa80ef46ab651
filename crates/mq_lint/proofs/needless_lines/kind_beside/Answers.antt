use Rattle.std.proofs.Common.{[], ◌∷◌, ◌++◌, sym, subst, ◌∙◌}
use Rattle.mq_acl.specs.Views.{row_view}
use Rattle.mq_witness.specs.Rows.{lent_rows}
use Rattle.mq_lint.specs.Needless.{AllowSame, Differ, repeated, without_all}
use Rattle.mq_lint.proofs.BesideLemmas.{called_beside, differs_beside, kept_beside, same_beside}
use Rattle.mq_lint.proofs.needless_lines.kind_beside.Goals as goal

pub returns-then-branch-clause-kind : goal.returns-then-branch-clause-kind
returns-then-branch-clause-kind c =
    let asked = c.args.lint.now.asked in
    let rows = c.args.lint.now.rows.now in
    let called = lent_rows c.args.called.now.called.items in
    let row = row_view c.args.row.now in
    kept_beside asked.rules rows called row (repeated rows c.args.place row) c.args.kind c.requires.kind
    (sym c.is_needless.ensures ∙ c.if-not-is_needless.false)
    (subst (λ all. Differ asked.rules all (without_all (called ++ row ∷ []) all))
    c.args.lint.now.is_lint.rows_are
    (differs_beside asked.rules asked.rows called row c.requires.same
    (c.in_ok-is_needed_at.ensures.needed c.if-branch.true)))

pub returns-clause-kind : goal.returns-clause-kind
returns-clause-kind c =
    let asked = c.args.lint.now.asked in
    let rows = c.args.lint.now.rows.now in
    let called = lent_rows c.args.called.now.called.items in
    let row = row_view c.args.row.now in
    called_beside asked.rules rows called row (repeated rows c.args.place row) c.args.kind c.requires.kind
    (sym c.is_needless.ensures ∙ c.if-not-is_needless.false)
    (subst (λ all. AllowSame asked.rules all (without_all (called ++ row ∷ []) all))
    c.args.lint.now.is_lint.rows_are
    (same_beside asked.rules asked.rows called row c.requires.same
    (c.in_ok-is_needed_at.ensures.needless c.if-branch.false)))
