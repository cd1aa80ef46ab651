use Rattle.std.proofs.Common.{◌∙◌, sym, ap, map, string_bytes, arith}
use Rattle.std.specs.Option.{option_map}
use Rattle.std.specs.Rc.{rc_str_bytes}
use Rattle.mq_world.specs.Lists.{Text}
use Rattle.mq_world.specs.World.{Subscription}
use Rattle.mq_router.specs.StandsFor.{State}
use Rattle.mq_world.specs.Retained.{asks_for_retained}
use Rattle.mq_router.specs.router.Effects.{copies_sent}
use Rattle.mq_subscriptions.specs.Filters.{row}
use Rattle.mq_world.specs.Views.{copy_of}
use Rattle.mq_router.specs.router.Views.{state_of}
use Rattle.mq_router.proofs.RouterLemmas.{sent-none, sent-some}
use Rattle.mq_router.proofs.router.Router.copies_sent.Goals as goal

pub returns-then-not-asks_for_retained-clause-copies :
    goal.returns-then-not-asks_for_retained-clause-copies
returns-then-not-asks_for_retained-clause-copies c =
    let s : State = state_of c.self.inside in
    let by : Text → Subscription = λ client. row (option_map string_bytes
    c.args.sub_filter.now.share)
    c.args.sub_filter.now.filter (client, c.args.options) in
    let new : Subscription = by (rc_str_bytes c.args.client.now) in
    let asks = c.asks_for_retained.ensures
    ∙ ap (λ client. asks_for_retained s.subscriptions (by client)) c.as_str.ensures.value in
    ap (map copy_of) c.new.ensures.items
    ∙ sym (sent-none s new (sym asks ∙ c.if-not-asks_for_retained.true))
    ∙ ap (λ (v : State). copies_sent v new) c.self.view_is

pub returns-clause-copies : goal.returns-clause-copies
returns-clause-copies c = grind (arith, sent-some)
