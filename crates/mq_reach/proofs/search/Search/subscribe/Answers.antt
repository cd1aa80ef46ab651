use Rattle.std.proofs.Common.{◌≡◌, ◌∙◌, ◌++◌, ◌∷◌, [], Some, Ok, ap, sym, subst}
use Rattle.std.proofs.Common.{refl, rules, map, string_bytes}
use Rattle.std.specs.Option.{option_copied, option_map}
use Rattle.std.proofs.lemmas.Result.{err_from_is_err_and}
use Rattle.mq_topic.specs.Texts.{filter_part}
use Rattle.mq_world.specs.World.{Request, Subscribe}
use Rattle.mq_reach.specs.Faults.{IsAskFault}
use Rattle.mq_reach.specs.Reach.{Reads, ReadsNone}
use Rattle.mq_reach.specs.Search.{kind_of}
use Rattle.mq_reach.specs.Tracked.{closed_one, subscription_view, tracked_of}
use Rattle.mq_reach.proofs.SubscribeLemmas.{subscribe-fails, subscribe-reached, subscribe-refused}
use Rattle.mq_reach.proofs.SubscribeLemmas.{subscribe-unreached}
use Rattle.mq_reach.proofs.search.Search.subscribe.Goals as goal

pub returns-in_default-clause-ok : goal.returns-in_default-clause-ok
returns-in_default-clause-ok c = λ options e.
    subscribe-refused c.args.list.now (string_bytes c.args.client) (string_bytes c.args.filter)
    options c.args.self.now
    (ap (option_map subscription_view) (sym c.in_default.is) ∙ c.in_ok-subscription.ensures options
    e)

pub returns-in_default-clause-kind : goal.returns-in_default-clause-kind
returns-in_default-clause-kind c = λ options e.
    let request : Request =
    Subscribe (string_bytes c.args.client) (string_bytes c.args.filter) options in
    ap (λ o. kind_of o (Ok (Some request)))
    (ap (option_map subscription_view) (sym c.in_default.is) ∙ c.in_ok-subscription.ensures options
    e)

pub returns-in_err-unreached-clause-err : goal.returns-in_err-unreached-clause-err
returns-in_err-unreached-clause-err c = λ options e.
    let shown = subscription_view c.in-Some.subscription in
    let user : option_copied c.as_deref.result ≡ shown.user = search rules in
    let fault = err_from_is_err_and c.from_residual-in_err-unreached.result
    c.from_residual-in_err-unreached.ensures.1 in
    rw (fault.1, fault.2) (subscribe-fails c.args.list.now (string_bytes c.args.client)
    (string_bytes c.args.filter) options c.args.self.now shown c.in_err-unreached.field-0.0
    (ap (option_map subscription_view) (sym c.in-Some.is) ∙ c.in_ok-subscription.ensures options e)
    (subst (λ u. IsAskFault c.args.list.now shown u c.in_err-unreached.field-0.0) user
    c.in_err-unreached.ensures.err))

pub returns-then-not-unreached-clause-ok : goal.returns-then-not-unreached-clause-ok
returns-then-not-unreached-clause-ok c = λ options e.
    let shown = subscription_view c.in-Some.subscription in
    let user : option_copied c.as_deref.result ≡ shown.user = search rules in
    let reached = c.in_ok-unreached.ensures.reached c.if-not-unreached.true in
    subscribe-reached c.args.list.now (string_bytes c.args.client) (string_bytes c.args.filter)
    options c.args.self.now _ shown
    (ap (option_map subscription_view) (sym c.in-Some.is) ∙ c.in_ok-subscription.ensures options e)
    reached.0 reached.1
    (subst (λ u. Reads c.args.list.now shown.client u (filter_part shown.filter) reached.0) user
    reached.2)
    refl refl
    (c.close.ensures ∙ (λ i. map (closed_one (c.as_str.ensures.value i) (c.as_str-2.ensures.value i))
    c.args.self.now.tracked)) refl

pub returns-then-not-unreached-clause-kind : goal.returns-then-not-unreached-clause-kind
returns-then-not-unreached-clause-kind c = λ options e.
    let request : Request =
    Subscribe (string_bytes c.args.client) (string_bytes c.args.filter) options in
    ap (λ o. kind_of o (Ok (Some request)))
    (ap (option_map subscription_view) (sym c.in-Some.is) ∙ c.in_ok-subscription.ensures options e)

pub returns-clause-ok : goal.returns-clause-ok
returns-clause-ok c = λ options e.
    let shown = subscription_view c.in-Some.subscription in
    let user : option_copied c.as_deref.result ≡ shown.user = search rules in
    let none = c.in_ok-unreached.ensures.unreached c.if-not-unreached.false in
    subscribe-unreached c.args.list.now (string_bytes c.args.client) (string_bytes c.args.filter)
    options c.args.self.now _ shown
    (ap (option_map subscription_view) (sym c.in-Some.is) ∙ c.in_ok-subscription.ensures options e)
    (subst (λ u. ReadsNone c.args.list.now shown.client u (filter_part shown.filter)) user none)
    refl refl
    (c.in_ok-add.ensures.ok ∙ ap (λ l. l ++ tracked_of c.in-Some.subscription ∷ [])
    (c.close.ensures ∙ (λ i. map (closed_one (c.as_str.ensures.value i) (c.as_str-2.ensures.value i))
    c.args.self.now.tracked))) refl

pub returns-clause-kind : goal.returns-clause-kind
returns-clause-kind c = λ options e.
    let request : Request =
    Subscribe (string_bytes c.args.client) (string_bytes c.args.filter) options in
    ap (λ o. kind_of o (Ok (Some request)))
    (ap (option_map subscription_view) (sym c.in-Some.is) ∙ c.in_ok-subscription.ensures options e)
