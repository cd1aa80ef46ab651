use Rattle.std.proofs.Common.{arith, refl}
use Rattle.mq_sessions.proofs.HeapLemmas.{until-first}
use Rattle.mq_sessions.proofs.sessions.end_heap.Ends.any_until.Goals as goal

pub returns-in-Some-clause-all : goal.returns-in-Some-clause-all
returns-in-Some-clause-all c =
    rw (← c.self.view_is)
    (until-first c.args.moment _ _ c.in-Some.ensures.lookup
    (omega (arith, c.in-Some.ensures.variant.0 refl, c.self.invariant.1))
    (c.in-Some.ensures.greatest c.self.invariant.0))
