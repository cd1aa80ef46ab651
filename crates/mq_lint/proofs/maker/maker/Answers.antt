use Rattle.std.proofs.Common.{◌∙◌, Option, subst, sym}
use Rattle.std.specs.Prelude.{IfSome}
use Rattle.mq_acl.specs.Views.{row_view}
use Rattle.mq_acl.specs.declared.rules.Rules.{Rules}
use Rattle.mq_witness.specs.Rows.{lent_rows}
use Rattle.mq_shapes.specs.declared.clients.Clients.{Clients}
use Rattle.mq_lint.specs.Cases.{MissesRow}
use Rattle.mq_lint.proofs.ListLemmas.{row_inside}
use Rattle.mq_lint.proofs.MakerLemmas.{IsConcerned, makes_none_more, misses, others_make_nothing}
use Rattle.mq_lint.proofs.maker.maker.Goals as goal

pub loop-place-preserved-then-not-is_for : goal.loop-place-preserved-then-not-is_for
loop-place-preserved-then-not-is_for c =
    makes_none_more c.args.lint.now.asked.rules c.args.lint.now.rows.now
    (lent_rows c.args.called.now.called.items) (row_view c.args.row.now)
    c.loop-place.place
    c.other-item.result c.loop-place-test.true c.other-item.is
    (λ _. others_make_nothing c.args.lint.now.asked c.in-Some.clients (row_view c.args.row.now)
    (row_view c.other-item.result)
    (row_inside c.args.lint.now.rows.now c.args.lint.now.asked c.loop-place.place
    c.other-item.result c.args.lint.now.is_lint.rows_are c.loop-place-test.true c.other-item.is)
    (sym c.is_for.ensures ∙ c.if-not-is_for.true) (subst (λ (o : Option Clients). IfSome o (IsConcerned c.args.lint.now.asked
    (row_view c.args.row.now))) c.in-Some.is c.in_ok-found.ensures.some))
    c.loop-place.invariant

pub loop-place-preserved-then-not-may_meet : goal.loop-place-preserved-then-not-may_meet
loop-place-preserved-then-not-may_meet c =
    makes_none_more c.args.lint.now.asked.rules c.args.lint.now.rows.now
    (lent_rows c.args.called.now.called.items) (row_view c.args.row.now)
    c.loop-place.place
    c.other-item.result c.loop-place-test.true c.other-item.is
    (λ _. misses c.args.lint.now.asked c.in-Some.clients (row_view c.args.row.now)
    (row_view c.other-item.result) (subst (λ (o : Option Clients). IfSome o (IsConcerned c.args.lint.now.asked
    (row_view c.args.row.now))) c.in-Some.is c.in_ok-found.ensures.some)
    (subst (λ (rules : Rules). MissesRow rules (row_view c.args.row.now)
    (row_view c.other-item.result)) c.args.lint.now.is_lint.rules_are
    (c.may_meet.ensures c.if-not-may_meet.true)))
    c.loop-place.invariant
