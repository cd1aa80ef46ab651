use Rattle.std.proofs.Common.{◌≡◌, map}
use Rattle.std.specs.Vec.Iter.{into_iter_items}
use Rattle.mq_sessions.specs.Queue.{queue_all}
use Rattle.mq_sessions.specs.Views.{queue_item_of}
use Rattle.mq_sessions.proofs.sessions.Sessions.queue_all.Given as goal

abbrev pub invariant-loop-queued_copy : goal.invariant-loop-queued_copy
invariant-loop-queued_copy l = queue_all l.limit
    (map queue_item_of (into_iter_items l.queued_copy-iterator)) l.self
    ≡ queue_all l.limit (map queue_item_of l.fn.all.items) l.fn.self
