use Rattle.std.proofs.Common.{◌≡◌, ◌<◌, ◌≤◌, length, take, get_or, ap, sym, ◌∙◌, subst, arith, List}
use Rattle.mq_acl.specs.Views.{row_views}
use Rattle.mq_differences.specs.Marks.{IsKept}
use Rattle.mq_differences.specs.Questions.{AreShownBy, IsSplit, rows_without}
use Rattle.mq_differences.specs.declared.marks.Marked.{Marked}
use Rattle.mq_differences.proofs.EveryLemmas.{shows_all}
use Rattle.mq_differences.proofs.MarkLemmas.{split_at}
use Rattle.mq_differences.proofs.ReportLemmas.{AreDoneTo, are_done_none, are_done_one}
use Rattle.mq_differences.proofs.gains.add_gains.Goals as goal

pub add_by_grant-requires-clause-placed : goal.add_by_grant-requires-clause-placed
add_by_grant-requires-clause-placed c =
    let rows = c.args.question.now.to.now.rows.items in
    let m = c.index-rows-place.result in
    let value = c.as_slice-rows.ensures.value in
    let low : c.loop-place.place < length rows =
    subst (λ (ms : List Marked). c.loop-place.place < length ms) value c.loop-place-test.true in
    let is : m ≡ get_or rows c.loop-place.place m =
    c.index-rows-place.is ∙ ap (λ (ms : List Marked). get_or ms c.loop-place.place m) value in
    record {
      split = subst (λ (ms : List Marked). IsSplit rows (take c.loop-place.place ms) m.row.now)
          (sym value) (split_at rows c.loop-place.place m low is);
      grants = sym c.is_deny.ensures ∙ c.if-is_deny.false;
      kept = subst (IsKept (row_views (rows_without c.args.question.now.way
          c.args.question.now.lists.now.old.now c.args.question.now.lists.now.new.now))) (sym is)
          (c.requires.to.kept c.loop-place.place m low);
    }

pub loop-place-init : goal.loop-place-init
loop-place-init c =
    let shown = c.args.report.now.differences.items in
    subst (AreDoneTo c.args.question.now 0 shown) (λ i. (sym c.begin.ensures.same i).items)
    (are_done_none c.args.question.now shown)

pub loop-place-preserved : goal.loop-place-preserved
loop-place-preserved c =
    let m = c.index-rows-place.result in
    let value = c.as_slice-rows.ensures.value in
    are_done_one c.args.question.now c.loop-place.place m c.args.report.now.differences.items
    c.loop-place.report.differences.items c.add_by_grant.new.report.differences.items
    (subst (λ (ms : List Marked). c.loop-place.place < length ms) value c.loop-place-test.true)
    (c.index-rows-place.is ∙ ap (λ (ms : List Marked). get_or ms c.loop-place.place m) value)
    c.in_ok-add_by_grant.ensures.grows
    (λ grants. subst (λ (ms : List Marked). AreShownBy c.args.question.now
    (take c.loop-place.place ms) m c.add_by_grant.new.report.differences.items) value
    c.in_ok-add_by_grant.ensures.shown)
    c.loop-place.invariant

pub returns-clause-shown : goal.returns-clause-shown
returns-clause-shown c =
    let end : length c.args.question.now.to.now.rows.items ≤ c.loop-place.place =
    subst (λ (ms : List Marked). length ms ≤ c.loop-place.place) c.as_slice-rows.ensures.value
    (omega arith) in
    shows_all c.args.question.now c.loop-place.report.differences.items c.requires
    (λ place d low. c.loop-place.invariant.granted place d (omega arith) low)
