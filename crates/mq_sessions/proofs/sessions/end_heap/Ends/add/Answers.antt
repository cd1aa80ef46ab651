use Rattle.mq_sessions.proofs.HeapLemmas.{pushed}
use Rattle.mq_sessions.proofs.sessions.end_heap.Ends.add.Goals as goal

pub returns-clause-entries : goal.returns-clause-entries
returns-clause-entries c =
    rw (← c.self.view_is) (pushed _ _ _ (rw c.unwrap.ensures at c.push.ensures.permutation))
