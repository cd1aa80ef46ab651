use Rattle.std.proofs.Common.{ap, sym, ◌∙◌}
use Rattle.mq_acl.specs.Views.{row_view}
use Rattle.mq_acl.specs.declared.row.Row.{Row}
use Rattle.mq_witness.specs.Rows.{lent_rows}
use Rattle.mq_lint.specs.Needless.{is_among}
use Rattle.mq_lint.proofs.CalledLemmas.{left_in, left_out, left_same, lent_push, marked_at}
use Rattle.mq_lint.proofs.case.add_others.Goals as goal

pub loop-m-preserved-then-is_out : goal.loop-m-preserved-then-is_out
loop-m-preserved-then-is_out c =
    let m = marked_at c.args.called.now.rows.now c.args.rows.now c.loop-m.m-index c.m-item.result
    c.requires c.loop-m-test.true c.m-item.is in
    left_out (lent_rows c.args.called.now.called.items) (row_view c.args.row.now) c.args.rows.now
    c.loop-m.m-index c.m-item.result c.loop-m-test.true c.m-item.is (lent_rows c.args.others.now.items)
    (lent_rows c.loop-m.others.items) c.loop-m.invariant
    (ap (λ (r : Row). is_among (lent_rows c.args.called.now.called.items) (row_view r))
    (m.is c.m-item.result.row.now) ∙ sym (c.is_out.ensures c.m-item.result.row.now)
    ∙ c.if-is_out.true)

pub loop-m-preserved-then-same_row : goal.loop-m-preserved-then-same_row
loop-m-preserved-then-same_row c =
    let m = marked_at c.args.called.now.rows.now c.args.rows.now c.loop-m.m-index c.m-item.result
    c.requires c.loop-m-test.true c.m-item.is in
    left_same (lent_rows c.args.called.now.called.items) (row_view c.args.row.now) c.args.rows.now
    c.loop-m.m-index c.m-item.result c.loop-m-test.true c.m-item.is (lent_rows c.args.others.now.items)
    (lent_rows c.loop-m.others.items) c.loop-m.invariant
    (ap (λ (r : Row). is_among (lent_rows c.args.called.now.called.items) (row_view r))
    (m.is c.m-item.result.row.now) ∙ sym (c.is_out.ensures c.m-item.result.row.now)
    ∙ c.if-is_out.false)
    (sym c.same_row.ensures ∙ c.if-same_row.true)

pub loop-m-preserved : goal.loop-m-preserved
loop-m-preserved c =
    let m = marked_at c.args.called.now.rows.now c.args.rows.now c.loop-m.m-index c.m-item.result
    c.requires c.loop-m-test.true c.m-item.is in
    left_in (lent_rows c.args.called.now.called.items) (row_view c.args.row.now) c.args.rows.now
    c.loop-m.m-index c.m-item.result c.loop-m-test.true c.m-item.is (lent_rows c.args.others.now.items)
    (lent_rows c.loop-m.others.items) c.loop-m.invariant
    (ap (λ (r : Row). is_among (lent_rows c.args.called.now.called.items) (row_view r))
    (m.is c.m-item.result.row.now) ∙ sym (c.is_out.ensures c.m-item.result.row.now)
    ∙ c.if-is_out.false)
    (sym c.same_row.ensures ∙ c.if-same_row.false) (lent_rows c.push.new.self.items)
    (lent_push c.loop-m.others.items c.push.new.self.items c.m-item.result.row c.in_ok-push.ensures.items)
