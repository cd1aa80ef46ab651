use Rattle.std.proofs.Common.{◌≡◌, ◌∙◌, sym, ap, subst, map, Option, string_bytes, arith}
use Rattle.std.proofs.lemmas.Result.{err_from_is_err_and}
use Rattle.std.specs.Option.{option_map}
use Rattle.mq_topic.specs.Texts.{share_of}
use Rattle.mq_world.specs.Lists.{Text}
use Rattle.mq_world.specs.World.{Subscribe, Subscription, SubscriptionOptions, subscription_of}
use Rattle.mq_world.specs.Refusals.{refusal}
use Rattle.mq_world.specs.Views.{copy_of, options_of}
use Rattle.mq_world.specs.declared.answer.Outcome.TheVariants.{Reason}
use Rattle.mq_subscriptions.specs.SubFilters.{sub_filter_row}
use Rattle.mq_subscriptions.specs.Turns.{upsert}
use Rattle.mq_subscriptions.proofs.InTurn.{same-is, same-then}
use Rattle.mq_router.specs.StandsFor.{State}
use Rattle.mq_router.specs.router.Effects.{Does, world_of, copies_sent}
use Rattle.mq_router.specs.router.Views.{state_of}
use Rattle.mq_router.proofs.RouterLemmas.{refused-applied, subscribe-does}
use Rattle.mq_router.proofs.router.Router.subscribe.Goals as goal

pub returns-in_err-id-clause-applied : goal.returns-in_err-id-clause-applied
returns-in_err-id-clause-applied c = grind (arith, err_from_is_err_and, refused-applied)

pub returns-clause-applied : goal.returns-clause-applied
returns-clause-applied c =
    let s : State = state_of c.self.inside in
    let id = c.args.client.now in
    let text = c.args.text.now in
    let options : SubscriptionOptions = options_of c.args.options in
    let subs = c.insert.new.self in
    let new : State = record s { subscriptions = subs.rows; filter_keys = subs.keys } in
    let asked = c.in_ok-id.ensures.ok in
    let named : Option Text → Text → Subscription =
    λ sh f. record { client = id; share = sh; filter = f; options = options } in
    let is : named (option_map string_bytes c.in_ok-id.sub_filter.share)
    c.in_ok-id.sub_filter.filter ≡ subscription_of id text options =
    ap (λ sh. named sh c.in_ok-id.sub_filter.filter) asked.1.0
    ∙ ap (named (share_of text)) asked.1.1 in
    let by : Text → Subscription = λ k. sub_filter_row k c.in_ok-id.sub_filter
    c.args.options in
    let copies : map copy_of c.in_ok-copies.copies.items
    ≡ copies_sent s (subscription_of id text options) =
    c.in_ok-copies.ensures.copies
    ∙ ap (λ k. copies_sent c.args.self.now (by k)) asked.0
    ∙ ap (λ (v : State). copies_sent v
    (named (option_map string_bytes c.in_ok-id.sub_filter.share)
    c.in_ok-id.sub_filter.filter)) (sym c.self.view_is) ∙ ap (copies_sent s) is in
    subst (λ (v : State). Does v (Subscribe id text options)
    (record {
      copies = map copy_of c.in_ok-copies.copies.items;
      outcome =
          Reason c.args.options.qos;
    }) new) c.self.view_is
    (subscribe-does s id text options subs _ (record {
      accepted =
          ap (λ (v : State). refusal (world_of v) (Subscribe id text options)) c.self.view_is
          ∙ asked.2;
      reply_is = ap (λ l. record { copies = l; outcome = Reason c.args.options.qos }) copies;
    }) (record {
      same = same-then _ _ _ c.in_ok-insert.ensures.ok
          (same-is _ _ (ap (λ k. upsert (by k) s.subscriptions) asked.0
          ∙ ap (λ (x : Subscription). upsert x s.subscriptions) is));
      keys = λ old. c.in_ok-insert.ensures.keys;
    }))

pub returns-clause-counted : goal.returns-clause-counted
returns-clause-counted c = grind arith
