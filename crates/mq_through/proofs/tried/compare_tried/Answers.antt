use Rattle.mq_through.proofs.LoopLemmas.{regions_all, regions_more}
use Rattle.mq_through.proofs.tried.compare_tried.Goals as goal

pub loop-region-preserved : goal.loop-region-preserved
loop-region-preserved c =
    let k = c.args.comparison.now in
    regions_more k.plan.now k.old.now k.new.now c.args.regions.now c.args.clients.now
    c.loop-region.region-index c.region-item.result c.loop-region.found.items
    c.add_region.new.found.items c.loop-region-test.true c.region-item.is
    c.in_ok-add_region.ensures.grows c.in_ok-add_region.ensures.shown c.loop-region.invariant

pub returns-clause-shown : goal.returns-clause-shown
returns-clause-shown c =
    let k = c.args.comparison.now in
    regions_all k.plan.now k.old.now k.new.now c.args.regions.now c.args.clients.now
    c.loop-region.region-index c.loop-region.found.items c.loop-region-test.false
    c.requires.regions c.loop-region.invariant
