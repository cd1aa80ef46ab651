use Rattle.std.proofs.Common.{◌≡◌, ◌++◌, map}
use Rattle.std.specs.Slice.Iter.{chunk_by_rest}
use Rattle.mq_world.specs.Views.{copy_of, message_of}
use Rattle.mq_sessions.specs.Views.{queue_item_of}
use Rattle.mq_router.specs.delivery.Copies.{copies_by, queue_items_by, by_client}
use Rattle.mq_subscriptions.specs.Matches.{match_views, AreByClient}
use Rattle.mq_router.specs.delivery.Fates.{receivers}
use Rattle.mq_router.proofs.delivery.unshared.unshared_copies.Given as goal

abbrev pub invariant-loop-chunk : goal.invariant-loop-chunk
invariant-loop-chunk l = record {
  sorted : AreByClient (match_views (chunk_by_rest l.chunk-iterator));
  copies : map copy_of l.made.copies.items ++ copies_by l.view.access.now l.view.sessions.now
      (message_of l.outgoing.message) (by_client (match_views (chunk_by_rest l.chunk-iterator)))
      ≡ copies_by l.view.access.now l.view.sessions.now (message_of l.outgoing.message)
      (by_client (match_views l.fn.matches));
  queued : map queue_item_of l.made.queued.items ++ queue_items_by l.limit l.view.access.now
      l.view.sessions.now (message_of l.outgoing.message) l.outgoing.message.deadline
      (by_client (match_views (chunk_by_rest l.chunk-iterator)))
      ≡ queue_items_by l.limit l.view.access.now l.view.sessions.now
      (message_of l.outgoing.message) l.outgoing.message.deadline
      (by_client (match_views l.fn.matches));
  fates : l.fates ≡ receivers l.view.access.now l.view.sessions.now
      l.outgoing.message.topic.now;
}
