use Rattle.std.proofs.Common.{Bor, List, ap, subst, sym, ◌∙◌}
use Rattle.mq_acl.specs.Views.{row_view}
use Rattle.mq_acl.specs.declared.row.Row.{Row}
use Rattle.mq_witness.specs.Rows.{lent_rows}
use Rattle.mq_differences.specs.ByOwner.{everyones, own_rows}
use Rattle.mq_differences.specs.Marks.{views_of}
use Rattle.mq_differences.specs.declared.marks.Marked.{Marked}
use Rattle.mq_lint.specs.Cases.{AreMarked, has_row, others_of}
use Rattle.mq_lint.specs.Left.{left_of}
use Rattle.mq_lint.proofs.LeftLemmas.{gathered}
use Rattle.mq_lint.proofs.SameLemmas.{has_kept}
use Rattle.mq_lint.proofs.linted.Lint.case.Goals as goal

pub add_others-requires : goal.add_others-requires
add_others-requires c =
    subst (AreMarked c.args.called.now.rows.now) (sym c.everyones.ensures)
    (subst (λ (rows : List Row). AreMarked rows (everyones c.args.self.now.by_owner))
    (sym c.requires.rows) c.args.self.now.is_lint.everyones_marked)

pub add_others-requires-2 : goal.add_others-requires-2
add_others-requires-2 c =
    subst (AreMarked c.args.called.now.rows.now) (sym c.own.ensures)
    (subst (λ (rows : List Row). AreMarked rows (own_rows c.args.clients c.args.self.now.by_owner))
    (sym c.requires.rows) (c.args.self.now.is_lint.own_marked c.args.clients))

pub question-requires-clause-inside : goal.question-requires-clause-inside
question-requires-clause-inside c =
    has_kept (lent_rows c.args.called.now.called.items) (row_view c.args.row.now)
    c.args.self.now.asked.rows c.requires.inside

pub invariant_of-result : goal.invariant_of-result
invariant_of-result c =
    let q = c.question.result in
    let lint = c.args.self.now in
    let called = c.args.called.now in
    record {
      are_others =
          gathered c.args.clients (row_view c.args.row.now) (lent_rows called.called.items)
          lint.asked.rows (lent_rows c.new-others.result.items) (lent_rows c.add_others.new.others.items)
          (lent_rows c.add_others-2.new.others.items) (views_of c.everyones.result.now)
          (views_of c.own.result.now)
          (ap (λ (l : List (Bor Row)). lent_rows l) c.new-others.ensures.items)
          (ap (λ (l : List Marked). views_of l) c.everyones.ensures ∙ lint.is_lint.everyones_are)
          (ap (λ (l : List Marked). views_of l) c.own.ensures ∙ lint.is_lint.own_are c.args.clients)
          c.in_ok-add_others.ensures c.in_ok-add_others-2.ensures
          ∙ sym (λ i. others_of (c.question.ensures.clients i) (row_view (c.question.ensures.row i))
          (left_of (c.question.ensures.asked i) called));
      inside =
          (λ i. has_row (row_view (c.question.ensures.row i)) (left_of (c.question.ensures.asked i) called))
          ∙ c.requires.inside;
    }
