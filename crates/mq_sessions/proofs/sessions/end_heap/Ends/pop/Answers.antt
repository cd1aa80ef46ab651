use Rattle.std.proofs.lemmas.Grind.{common_steps}
use Rattle.std.proofs.Common.{arith}
use Rattle.mq_sessions.proofs.HeapLemmas.{first-popped, popped}
use Rattle.mq_sessions.proofs.sessions.end_heap.Ends.pop.Goals as goal

pub returns-clause-entries : goal.returns-clause-entries
returns-clause-entries c =
    rw (← c.self.view_is)
    (popped _ _ _ c.in_ok-end.ensures.top c.in_ok-end.ensures.permutation)

pub returns-clause-others : goal.returns-clause-others
returns-clause-others c =
    first-popped (c.in_ok-end.field-0-0, c.in_ok-end.client) _
    (c.in_ok-end.ensures.below_top c.self.invariant.0)

pub returns-clause-first : goal.returns-clause-first
returns-clause-first c = grind (arith, common_steps)
