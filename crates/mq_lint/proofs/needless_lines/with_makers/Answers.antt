use Rattle.std.proofs.Common.{◌≡◌, ◌<◌, ◌≤◌, None, length, subst, arith}
use Rattle.mq_acl.specs.Views.{row_view}
use Rattle.mq_witness.specs.Rows.{lent_rows}
use Rattle.mq_lint.specs.Kinds.{IsBeside}
use Rattle.mq_lint.proofs.BesideLemmas.{IsMadeOf, all_made, flags_done, flags_more}
use Rattle.mq_lint.proofs.KindLemmas.{UpTo, one_more, same_item, stop_in}
use Rattle.mq_lint.proofs.ListLemmas.{row_inside}
use Rattle.mq_lint.proofs.SameLemmas.{has_contained}
use Rattle.mq_lint.proofs.needless_lines.with_makers.Goals as goal

pub with_maker-requires-clause-inside : goal.with_maker-requires-clause-inside
with_maker-requires-clause-inside c =
    has_contained (row_view c.row-item.result) c.args.lint.now.asked.rows
    (row_inside c.args.lint.now.rows.now c.args.lint.now.asked c.loop-place.place c.row-item.result
    c.args.lint.now.is_lint.rows_are c.loop-place-test.true c.row-item.is)

pub returns-in-Err-clause-fault : goal.returns-in-Err-clause-fault
returns-in-Err-clause-fault c =
    stop_in c.args.lint.now.rows.now c.args.lint.now.limited c.loop-place.place c.row-item.result
    c.in-Err.fault c.loop-place-test.true c.row-item.is c.in-Err.ensures.fault

pub loop-place-preserved : goal.loop-place-preserved
loop-place-preserved c =
    let kinds = c.args.kinds.now in
    let place = c.loop-place.place in
    let low : c.loop-place.place < length c.args.kinds.now =
    (let count = c.requires.are.count in omega arith) in
    record {
      made = one_more (IsMadeOf c.args.lint.now.asked.rules c.args.lint.now.rows.now kinds
          (lent_rows c.args.called.now.called.items)) c.args.lint.now.rows.now place
          c.loop-place.all.items c.add_kind.new.kinds.items c.row-item.result c.in-Ok.kind
          c.in_ok-add_kind.ensures c.loop-place-test.true c.row-item.is
          (λ behind h. c.in-Ok.ensures.kind behind place
          (subst (IsBeside c.args.lint.now.asked.rules c.args.lint.now.rows.now behind place
          c.row-item.result) (same_item kinds place None _ low) h))
          c.loop-place.invariant.made;
      flags = flags_more kinds c.loop-place.all.items c.add_kind.new.kinds.items place _ c.in-Ok.kind
          low (same_item kinds place _ _ low) c.in-Ok.ensures.called c.in_ok-add_kind.ensures
          c.loop-place.invariant.flags;
    }

pub returns-clause-are : goal.returns-clause-are
returns-clause-are c =
    let kinds = c.args.kinds.now in
    let called = lent_rows c.args.called.now.called.items in
    let rules = c.args.lint.now.asked.rules in
    let rows = c.args.lint.now.rows.now in
    let end : c.loop-place.place ≡ length c.args.lint.now.rows.now = omega arith in
    let over : length c.args.kinds.now ≤ c.loop-place.place =
    (let count = c.requires.are.count in omega arith) in
    all_made rules rows kinds c.loop-place.all.items called c.requires.are
    (subst (λ n. UpTo (IsMadeOf rules rows kinds called) rows n c.loop-place.all.items) end
    c.loop-place.invariant.made)
    (flags_done kinds c.loop-place.all.items c.loop-place.place over c.loop-place.invariant.flags)
