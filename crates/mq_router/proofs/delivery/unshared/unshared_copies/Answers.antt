use Rattle.std.proofs.Common.{rules, ◌∙◌, ◌++◌, ap, map, get_or, arith, ◌&&◌}
use Rattle.std.specs.Rc.{rc_str_bytes}
use Rattle.std.proofs.lemmas.List.Sorted.{answers_always}
use Rattle.mq_world.specs.Views.{copy_of, options_of, message_of}
use Rattle.mq_world.specs.Lists.{Text}
use Rattle.mq_sessions.specs.Views.{queue_item_of}
use Rattle.mq_acl.specs.AccessLists.{allowed}
use Rattle.mq_acl.specs.declared.access.Direction.TheVariants.{Reading}
use Rattle.mq_world.specs.Sessions.{is_reader, user_of}
use Rattle.mq_sessions.specs.Queue.{room_for}
use Rattle.mq_router.specs.delivery.Copies.{copies_by, queue_items_by, by_client}
use Rattle.mq_router.specs.delivery.Summaries.{Summary, summary_of}
use Rattle.mq_subscriptions.specs.Matches.{match_views}
use Rattle.std.specs.Slice.Iter.{chunk_by_rest}
use Rattle.mq_router.proofs.ClientLemmas.{next-client, copies-first, begins-first}
use Rattle.mq_router.proofs.delivery.unshared.unshared_copies.Goals as goal

pub loop-chunk-preserved : goal.loop-chunk-preserved
loop-chunk-preserved c =
    let m = message_of c.args.outgoing.now.message in
    let deadline = c.args.outgoing.now.message.deadline in
    let A = c.args.view.now.access.now in
    let S = c.args.view.now.sessions.now in
    let held = c.loop-chunk.invariant in
    let first =
    next-client _ c.loop-chunk.chunk-iterator c.next.new.self c.next.result c.in-Some.chunk
    c.index-chunk-0.result c.in-Some.is c.next.ensures.steps
    (answers_always _ _ _ (λ f a r g h. search rules)) held.sorted in
    let left = by_client (match_views (chunk_by_rest c.next.new.self)) in
    let l : Text × Summary = (
      rc_str_bytes (get_or c.in-Some.chunk.now 0 c.index-chunk-0.result).client.now,
      summary_of (map (λ x. options_of x.options) c.in-Some.chunk.now),
    ) in
    let sent = c.fate-fate.ensures.sent
    ∙ ap (λ f. is_reader f.access f.sessions f.topic l.0) held.fates in
    let waits = c.fate-fate.ensures.waits ∙ ap (λ f. room_for c.args.limit f.sessions l.0
    && allowed f.access l.0 (user_of f.sessions l.0) f.topic Reading) held.fates in
    let all = by_client (match_views (chunk_by_rest c.loop-chunk.chunk-iterator)) in
    record {
      sorted = first.0;
      copies = ap (λ l. l ++ copies_by A S m left) c.in_ok-add.ensures.copies
          ∙ copies-first c.args.limit A S m deadline l c.fate-fate.result sent waits
          (map copy_of c.loop-chunk.made.copies.items) left all first.1
          ∙ held.copies;
      queued = ap (λ l. l ++ queue_items_by c.args.limit A S m deadline left)
          c.in_ok-add.ensures.queued
          ∙ begins-first c.args.limit A S m deadline l c.fate-fate.result sent waits
          (map queue_item_of c.loop-chunk.made.queued.items) left all first.1
          ∙ held.queued;
      fates = c.fate-fate.ensures.same ∙ held.fates;
    }

pub loop-chunk-init : goal.loop-chunk-init
loop-chunk-init c = grind arith
