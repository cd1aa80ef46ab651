use Rattle.std.proofs.Common.{◌≡◌, true, ◌∙◌, sym, subst}
use Rattle.mq_acl.specs.Views.{row_view}
use Rattle.mq_lint.specs.Cases.{has_row}
use Rattle.mq_lint.specs.Needless.{AllowSame, Differ, without}
use Rattle.mq_lint.proofs.LeftLemmas.{all_left}
use Rattle.mq_lint.proofs.needless_lines.kind_alone.Goals as goal

pub is_needed-requires-clause-inside : goal.is_needed-requires-clause-inside
is_needed-requires-clause-inside c =
    subst (λ rows. has_row (row_view c.args.row.now) rows ≡ true)
    (sym (all_left c.args.lint.now.asked c.args.none.now c.requires.none)) c.requires.inside

pub returns-then-branch-2-clause-kind : goal.returns-then-branch-2-clause-kind
returns-then-branch-2-clause-kind c =
    let asked = c.args.lint.now.asked in
    let row = row_view c.args.row.now in
    subst (λ rows. Differ asked.rules rows (without row rows))
    (all_left asked c.args.none.now c.requires.none ∙ c.args.lint.now.is_lint.rows_are)
    (c.in_ok-is_needed.ensures.needed c.if-branch-2.true)

pub returns-clause-kind : goal.returns-clause-kind
returns-clause-kind c =
    let asked = c.args.lint.now.asked in
    let row = row_view c.args.row.now in
    record {
      denies_some = c.in_ok-denies_nothing.ensures.something c.if-branch.false;
      alone = subst (λ rows. AllowSame asked.rules rows (without row rows))
          (all_left asked c.args.none.now c.requires.none ∙ c.args.lint.now.is_lint.rows_are)
          (c.in_ok-is_needed.ensures.needless c.if-branch-2.false);
    }
