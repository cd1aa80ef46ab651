use Rattle.std.proofs.Common.{◌∙◌, ◌++◌, sym, ap, subst, map, List, arith}
use Rattle.std.proofs.lemmas.Result.{IfOk-weaker}
use Rattle.mq_world.specs.World.{Subscription}
use Rattle.mq_world.specs.Sessions.{connected}
use Rattle.mq_subscriptions.specs.Turns.{next_members, turns_in}
use Rattle.mq_router.specs.router.Effects.{member_copy}
use Rattle.mq_world.specs.Copies.{unshared_copies}
use Rattle.mq_subscriptions.specs.Matches.{rows_found, match_views, options_among, AreByClient}
use Rattle.mq_router.specs.delivery.Copies.{gives_options, by_client}
use Rattle.mq_router.specs.delivery.Summaries.{summary_for}
use Rattle.mq_world.specs.Views.{message_of}
use Rattle.mq_subscriptions.specs.Filters.{AreEntriesFor}
use Rattle.mq_router.proofs.ClientLemmas.{sorted-by_client, lookup-by_client, options-unshared}
use Rattle.mq_router.proofs.UnsharedCopies.{unshared-gathered, unshared-queued, options-matching}
use Rattle.mq_router.proofs.GroupLemmas.{members-matching}
use Rattle.mq_router.proofs.NothingLemmas.{empty-is, no-copies, no-queued, no-members}
use Rattle.mq_router.proofs.delivery.make_copies.Goals as goal

pub members_served-requires : goal.members_served-requires
members_served-requires c =
    subst (λ found. AreEntriesFor c.args.message.now.topic.now (map (λ a. a.now) found))
    (sym c.as_slice-found.ensures.value) c.in_ok-candidates.ensures.order

pub deliveries_for-requires : goal.deliveries_for-requires
deliveries_for-requires c =
    subst (λ ms. AreByClient (match_views ms)) (sym c.as_slice.ensures.value)
    c.in_ok-matches.ensures.sorted

pub returns-then-is_empty-clause-served : goal.returns-then-is_empty-clause-served
returns-then-is_empty-clause-served c = grind (arith, empty-is, no-members)

pub returns-then-is_empty-clause-queued : goal.returns-then-is_empty-clause-queued
returns-then-is_empty-clause-queued c = grind (arith, empty-is, no-queued)

pub returns-then-is_empty-clause-copies : goal.returns-then-is_empty-clause-copies
returns-then-is_empty-clause-copies c = grind (arith, empty-is, no-copies, no-members)

pub returns-clause-served : goal.returns-clause-served
returns-clause-served c =
    let m = message_of c.args.message.now in
    let members : List Subscription → List Subscription =
    λ xs. next_members c.args.view.now.access.now c.args.view.now.sessions.now xs m in
    IfOk-weaker c.deliveries_for.result _ _
    (λ made e. ap turns_in e
    ∙ c.in_ok-served.ensures
    ∙ ap (λ l. members (rows_found (map (λ a. a.now) l))) c.as_slice-found.ensures.value
    ∙ ap members c.in_ok-candidates.ensures.rows
    ∙ members-matching c.args.view.now.access.now c.args.view.now.sessions.now
    c.args.subscriptions.now.rows m)
    c.deliveries_for.ensures.served

pub returns-clause-queued : goal.returns-clause-queued
returns-clause-queued c =
    let m = message_of c.args.message.now in
    let A = c.args.view.now.access.now in
    let S = c.args.view.now.sessions.now in
    let subs = c.args.subscriptions.now.rows in
    let ms = match_views c.as_slice.result.now in
    IfOk-weaker c.deliveries_for.result _ _
    (λ made e. e
    ∙ unshared-queued c.args.limit A S subs m c.args.message.now.deadline (by_client ms)
    c.len-sessions.ensures.ordered (sorted-by_client ms)
    (λ id. lookup-by_client id ms
    ∙ ap summary_for (ap (λ l. options_among id (match_views l)) c.as_slice.ensures.value
    ∙ c.in_ok-matches.ensures.options id
    ∙ options-unshared m id (rows_found (map (λ a. a.now) c.as_slice-found.result.now))
    ∙ ap (λ l. gives_options m id (rows_found (map (λ a. a.now) l))) c.as_slice-found.ensures.value
    ∙ ap (gives_options m id) c.in_ok-candidates.ensures.rows ∙ options-matching m id subs)))
    c.deliveries_for.ensures.queued

pub returns-clause-copies : goal.returns-clause-copies
returns-clause-copies c =
    let m = message_of c.args.message.now in
    let A = c.args.view.now.access.now in
    let S = c.args.view.now.sessions.now in
    let subs = c.args.subscriptions.now.rows in
    let members : List Subscription → List Subscription = λ xs. next_members A S xs m in
    let ms = match_views c.as_slice.result.now in
    let own = unshared-gathered A S subs m (by_client ms) c.len-sessions.ensures.ordered
    (sorted-by_client ms)
    (λ id. lookup-by_client id ms
    ∙ ap summary_for (ap (λ l. options_among id (match_views l)) c.as_slice.ensures.value
    ∙ c.in_ok-matches.ensures.options id
    ∙ options-unshared m id (rows_found (map (λ a. a.now) c.as_slice-found.result.now))
    ∙ ap (λ l. gives_options m id (rows_found (map (λ a. a.now) l))) c.as_slice-found.ensures.value
    ∙ ap (gives_options m id) c.in_ok-candidates.ensures.rows ∙ options-matching m id subs)) in
    IfOk-weaker c.deliveries_for.result _ _
    (λ made e. e
    ∙ ap (λ l. l ++ map (member_copy m) (turns_in c.in_ok-served.served)) own
    ∙ ap (λ l. unshared_copies A (connected S) subs m ++ map (member_copy m) l)
    (c.in_ok-served.ensures
    ∙ ap (λ l. members (rows_found (map (λ a. a.now) l))) c.as_slice-found.ensures.value
    ∙ ap members c.in_ok-candidates.ensures.rows
    ∙ members-matching A S subs m))
    c.deliveries_for.ensures.copies
