use Rattle.std.proofs.Common.{get_or, sym, subst}
use Rattle.mq_differences.specs.Questions.{HasDenies}
use Rattle.mq_differences.proofs.ReportLemmas.{done_all, done_one, get_number}
use Rattle.mq_differences.proofs.gains.add_by_grant.Goals as goal

pub loop-place-preserved : goal.loop-place-preserved
loop-place-preserved c =
    let places = c.deref-place-items.result.now in
    let place = get_or places c.loop-place.place-index 0 in
    done_one c.args.question.now c.args.before.now c.args.grant.now places c.loop-place.place-index
    place c.args.report.now.differences.items c.loop-place.report.differences.items
    c.add_denied.new.report.differences.items c.loop-place-test.true
    (get_number places c.loop-place.place-index 0 place c.loop-place-test.true)
    c.in_ok-add_denied.ensures.grows c.in_ok-add_denied.ensures.shown c.loop-place.invariant

pub returns-clause-shown : goal.returns-clause-shown
returns-clause-shown c =
    done_all c.args.question.now c.args.before.now c.args.grant.now c.deref-place-items.result.now
    c.loop-place.place-index c.args.report.now.differences.items
    c.loop-place.report.differences.items c.loop-place-test.false
    (subst (HasDenies c.args.question.now.from.now.rows.items)
    (sym c.deref-place-items.ensures.value) c.requires.question.from.denies) c.loop-place.invariant
