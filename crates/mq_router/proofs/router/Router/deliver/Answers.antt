use Rattle.std.proofs.Common.{rules, ◌≡◌, ◌∙◌, ◌==◌, ◌<◌, ◌+◌, ◌^◌, ℕ, sym, ap, subst, map, not}
use Rattle.std.proofs.Common.{length, Option, List}
use Rattle.mq_subscriptions.specs.Turns.{turn_of, all_turned}
use Rattle.mq_sessions.specs.Views.{queue_item_of}
use Rattle.mq_router.specs.router.Views.{state_of}
use Rattle.mq_world.specs.World.{Publish, Message, Subscription}
use Rattle.mq_world.specs.Refusals.{refusal}
use Rattle.mq_world.specs.Clock.{deadline_of}
use Rattle.mq_world.specs.Waiting.{waiting_after, begins_to_wait}
use Rattle.mq_sessions.specs.Queue.{QueueItem, queue_all}
use Rattle.mq_router.specs.delivery.Copies.{queued_by}
use Rattle.mq_sessions.specs.Near.{AllReached}
use Rattle.std.specs.Option.{IfSome}
use Rattle.mq_world.specs.Answers.{publish_reply}
use Rattle.mq_router.specs.StandsFor.{State}
use Rattle.mq_router.specs.router.Effects.{Does, world_of, copies_now, queued_now, members_now}
use Rattle.mq_world.specs.Views.{reply_of, message_of}
use Rattle.mq_subscriptions.proofs.InTurn.{same-is, same-then}
use Rattle.mq_router.proofs.RouterLemmas.{publish-does}
use Rattle.mq_router.proofs.QueuedLemmas.{queued-is, waits-is}
use Rattle.mq_sessions.proofs.ReachedLemmas.{reached-after}
use Rattle.std.proofs.lemmas.List.{length-map}
use Rattle.mq_router.proofs.router.Router.deliver.Goals as goal

pub invariant_of-self-2 : goal.invariant_of-self-2
invariant_of-self-2 c =
    let s : State = state_of c.self.inside in
    let m : Message = message_of c.args.message.now in
    let limit = s.limits.queued in
    let value : c.args.message.now.deadline ≡ deadline_of s.moment m.expiry =
    c.requires.value ∙ ap (λ (v : State). deadline_of v.moment m.expiry) (sym c.self.view_is) in
    let within : IfSome c.args.message.now.deadline (λ d. d < s.moment + 2 ^ 32) =
    subst (λ (v : State). IfSome c.args.message.now.deadline (λ d. d < v.moment + 2 ^ 32))
    (sym c.self.view_is) c.requires.near in
    let near : IfSome (deadline_of s.moment m.expiry) (λ d. d < s.moment + 2 ^ 32) =
    subst (λ deadline. IfSome deadline (λ d. d < s.moment + 2 ^ 32)) value within in
    let waiting : c.queue_all.new.self
    ≡ map (waiting_after limit s.access s.subscriptions s.moment m) s.sessions =
    c.queue_all.ensures.new ∙ ap (λ bs. queue_all limit bs s.sessions)
    (c.in_ok-made.ensures.queued ∙ ap (λ (v : State). queued_now v m c.args.message.now.deadline)
    (sym c.self.view_is) ∙ ap (queued_now s m) value)
    ∙ queued-is limit s.access s.subscriptions s.moment m s.sessions
    c.queue_all.ensures.ordered in (
      c.in_ok-publish.ensures.near s.moment within c.self.invariant.0,
      subst (AllReached s.moment) (sym waiting)
          (reached-after limit s.access s.subscriptions s.moment m s.sessions near
          c.self.invariant.1),
    )

pub returns-clause-applied : goal.returns-clause-applied
returns-clause-applied c = λ accepted.
    let s : State = state_of c.self.inside in
    let m : Message = message_of c.args.message.now in
    let subs = c.serve_all.new.self in
    let kept = c.publish.new.self in
    let new : State = record s {
      sessions = c.queue_all.new.self;
      subscriptions = subs.rows;
      filter_keys = subs.keys;
      retained = kept.messages;
      topic_keys = kept.keys;
      deadlines =
          kept.pairs;
    } in
    let limit = s.limits.queued in
    let turned : List Subscription → List Subscription = λ ss. all_turned ss s.subscriptions in
    let deadline : Option ℕ = deadline_of s.moment m.expiry in
    let value : c.args.message.now.deadline ≡ deadline =
    c.requires.value ∙ ap (λ (v : State). deadline_of v.moment m.expiry) (sym c.self.view_is) in
    let queued : map queue_item_of c.in_ok-made.made.queued.items
    ≡ queued_by limit s.access s.sessions s.subscriptions m deadline =
    c.in_ok-made.ensures.queued ∙ ap (λ (v : State). queued_now v m c.args.message.now.deadline)
    (sym c.self.view_is) ∙ ap (queued_now s m) value in
    let none : c.is_empty-waits.result ≡ (length c.in_ok-made.made.queued.items == 0) =
    search rules in
    let waits : not c.is_empty-waits.result ≡ begins_to_wait limit s.access s.sessions
    s.subscriptions m =
    ap not none ∙ ap (λ n. not (n == 0)) (sym (length-map c.in_ok-made.made.queued.items
    queue_item_of))
    ∙ ap (λ (bs : List QueueItem). not (length bs == 0)) queued
    ∙ waits-is limit s.access s.subscriptions m deadline s.sessions in
    let waiting : c.queue_all.new.self
    ≡ map (waiting_after limit s.access s.subscriptions s.moment m) s.sessions =
    c.queue_all.ensures.new ∙ ap (λ bs. queue_all limit bs s.sessions) queued
    ∙ queued-is limit s.access s.subscriptions s.moment m s.sessions c.queue_all.ensures.ordered in
    subst (λ (v : State). Does v (Publish m) (reply_of c.published.result) new) c.self.view_is
    (publish-does s m c.queue_all.new.self subs kept _ (record {
      accepted = ap (λ (v : State). refusal (world_of v) (Publish m)) c.self.view_is ∙ accepted;
      reply_is = c.published.ensures ∙ ap (λ l. publish_reply l (not c.is_empty-waits.result))
          (c.in_ok-made.ensures.copies ∙ ap (λ (v : State). copies_now v m) (sym c.self.view_is))
          ∙ ap (publish_reply (copies_now s m)) waits;
    }) waiting (record {
      same = same-then _ _ _ c.serve_all.ensures.rows
          (same-is _ _ (ap (λ l. turned (map turn_of l)) c.as_slice.ensures.value
          ∙ ap turned (c.in_ok-made.ensures.served
          ∙ ap (λ (v : State). members_now v m) (sym c.self.view_is))));
      keys = c.serve_all.ensures.keys;
    }) (record {
      same = c.in_ok-publish.ensures.ok s.moment value;
      filed = λ keys pairs.
          c.in_ok-publish.ensures.filed (record { keys = keys; pairs = pairs });
    }))
