use Rattle.std.proofs.Common.{map, length}
use Rattle.mq_sessions.specs.Pending.{AreAscending}
use Rattle.mq_sessions.specs.Views.{queue_item_of}
use Rattle.mq_sessions.proofs.sessions.pending.are_ascending.Given as goal

-- if the rest ascend, all do
abbrev pub invariant-loop-rest : goal.invariant-loop-rest
invariant-loop-rest l = AreAscending (map queue_item_of l.rest)
    → AreAscending (map queue_item_of l.fn.all)

abbrev pub decreases-loop-rest : goal.decreases-loop-rest
decreases-loop-rest l = length l.rest
