use Rattle.mq_through.proofs.LoopLemmas.{AreRegionsDone}
use Rattle.mq_through.proofs.tried.compare_tried.Given as goal

-- what changes in the regions so far
abbrev pub invariant-loop-region : goal.invariant-loop-region
invariant-loop-region l = AreRegionsDone l.comparison.plan.now l.comparison.old.now
    l.comparison.new.now l.regions l.clients l.region-index l.found.items
