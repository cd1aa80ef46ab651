use Rattle.mq_through.specs.Tried.{IsTried}
use Rattle.mq_through.proofs.LoopLemmas.{AreClientsDone}
use Rattle.mq_through.proofs.tried.add_region.Given as goal

-- what changes for the clients so far, of whom the last one has the lists that were made last
abbrev pub invariant-loop-client : goal.invariant-loop-client
invariant-loop-client l = AreClientsDone l.comparison.plan.now l.comparison.old.now
    l.comparison.new.now l.region l.clients l.client-index l.fn.found.items l.found.items
    × IsTried l.comparison l.region l.last l.found.items
