use Rattle.std.proofs.Common.{◌≡◌, length, map}
use Rattle.std.specs.List.{filter, find}
use Rattle.mq_sessions.specs.Pending.{AreAscending, is_beyond, is_for}
use Rattle.mq_sessions.specs.Views.{queue_item_of}
use Rattle.mq_sessions.proofs.sessions.pending.Pending.pass.Given as goal

abbrev pub invariant-loop-first : goal.invariant-loop-first
invariant-loop-first l = record {
  ascend : AreAscending (map queue_item_of l.self-inside.copies.items);
  found : find (is_for l.id) (map queue_item_of l.self-inside.copies.items)
      ≡ find (is_for l.id) l.fn.self;
  left : filter (is_beyond l.id) (map queue_item_of l.self-inside.copies.items)
      ≡ filter (is_beyond l.id) l.fn.self;
}

abbrev pub decreases-loop-first : goal.decreases-loop-first
decreases-loop-first l = length l.self-inside.copies.items
