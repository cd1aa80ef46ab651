use Rattle.mq_through.proofs.AddingLemmas.{IsAdding}
use Rattle.mq_through.proofs.tried.add_client.Given as goal

-- what the differences so far are of
abbrev pub invariant-loop-difference : goal.invariant-loop-difference
invariant-loop-difference l = IsAdding l.comparison.plan.now l.comparison.old.now
    l.comparison.new.now l.region l.client l.made.old.items l.made.new.items l.fn.found.items l.found.items
    l.yielded
