use Rattle.std.proofs.Common.{rules, All, Vec, ap}
use Rattle.mq_differences.specs.Differences.{AreApart, AreMarked, IsReal, ShowsAll}
use Rattle.mq_differences.proofs.ChangeLemmas.{carried, report_marked, report_none, report_real}
use Rattle.mq_differences.proofs.ChangeLemmas.{same_allowed, stop_fault}
use Rattle.mq_differences.proofs.changes.compare.Goals as goal

pub returns-in_err-add_all-clause-fault : goal.returns-in_err-add_all-clause-fault
returns-in_err-add_all-clause-fault c =
    let lists = c.in_ok-lists.lists in
    let stopped = stop_fault c.args.rules lists c.args.old.now c.args.new.now c.args.steps
    c.in_ok-lists.ensures.old c.in_ok-lists.ensures.new c.in_ok-lists.ensures.limited
    c.in_err-add_all.field-0.0 c.in_err-add_all.ensures.fault in
    search (rules, stopped)

pub returns-clause-every : goal.returns-clause-every
returns-clause-every c =
    carried (λ rules old new all. ShowsAll rules old new all) c.in_ok-lists.ensures.rules
    c.in_ok-lists.ensures.old c.in_ok-lists.ensures.new (ap Vec.items c.into_differences.ensures)
    c.in_ok-add_all.ensures.shown

pub returns-clause-real : goal.returns-clause-real
returns-clause-real c =
    let lists = c.in_ok-lists.lists in
    let shown = c.add_all.new.report.differences.items in
    carried (λ rules old new all. All (IsReal rules old new) all) c.in_ok-lists.ensures.rules
    c.in_ok-lists.ensures.old c.in_ok-lists.ensures.new (ap Vec.items c.into_differences.ensures)
    (report_real lists.old.now lists.new.now lists.asked shown
    (c.in_ok-add_all.ensures.grows.report (report_none lists.old.now lists.new.now lists.asked
    c.new-report.result.differences.items c.new-report.ensures)))

pub returns-clause-once : goal.returns-clause-once
returns-clause-once c =
    let lists = c.in_ok-lists.lists in
    carried (λ rules old new all. AreApart all) c.in_ok-lists.ensures.rules
    c.in_ok-lists.ensures.old c.in_ok-lists.ensures.new (ap Vec.items c.into_differences.ensures)
    (c.in_ok-add_all.ensures.grows.report (report_none lists.old.now lists.new.now lists.asked
    c.new-report.result.differences.items c.new-report.ensures)).apart

pub returns-clause-marked : goal.returns-clause-marked
returns-clause-marked c =
    let lists = c.in_ok-lists.lists in
    let shown = c.add_all.new.report.differences.items in
    carried (λ rules old new all. AreMarked rules old new all) c.in_ok-lists.ensures.rules
    c.in_ok-lists.ensures.old c.in_ok-lists.ensures.new (ap Vec.items c.into_differences.ensures)
    (report_marked lists.old.now lists.new.now lists.asked shown c.in_ok-lists.ensures.lists.asked
    (c.in_ok-add_all.ensures.grows.report (report_none lists.old.now lists.new.now lists.asked
    c.new-report.result.differences.items c.new-report.ensures)))

pub returns-clause-same : goal.returns-clause-same
returns-clause-same c =
    same_allowed c.args.rules c.args.old.now c.args.new.now c.into_differences.result.items
    (carried (λ rules old new all. ShowsAll rules old new all) c.in_ok-lists.ensures.rules
    c.in_ok-lists.ensures.old c.in_ok-lists.ensures.new (ap Vec.items c.into_differences.ensures)
    c.in_ok-add_all.ensures.shown)
