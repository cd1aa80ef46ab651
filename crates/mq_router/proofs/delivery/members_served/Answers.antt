use Rattle.std.proofs.Common.{◌∙◌, ◌++◌, [], List, ap, map, take, get_or, sym, arith}
use Rattle.std.specs.List.{flat_map}
use Rattle.std.proofs.lemmas.List.{flat_map_more, map_more, take_all}
use Rattle.mq_world.specs.World.{Subscription}
use Rattle.mq_subscriptions.specs.Filters.{Entry}
use Rattle.mq_subscriptions.specs.Turns.{next_in, turns_of}
use Rattle.mq_router.proofs.ServedMembers.{served-members}
use Rattle.mq_router.proofs.delivery.members_served.Goals as goal

pub returns : goal.returns
returns c = grind (arith, take_all, served-members)

pub loop-at-preserved : goal.loop-at-preserved
loop-at-preserved c = λ share.
    let A = c.args.view.now.access.now in
    let S = c.args.view.now.sessions.now in
    let topic = c.args.message.now.topic.now in
    let f : Entry → List Subscription =
    λ a. turns_of (next_in A S a.rows topic (record { share = share; filter = a.filter })) in
    let i = c.loop-at.at-index in
    let found = c.args.found.now in
    let item = c.at-item.result in
    let before : List Entry = map (λ a. a.now) (take i found) in
    c.in_ok-gather_turns.ensures share
    ∙ ap (λ l. l ++ f item.now) (c.loop-at.invariant share)
    ∙ ap (λ a. flat_map f before ++ f a.now) c.at-item.is
    ∙ flat_map_more f [] before (get_or found i item).now
    ∙ ap (flat_map f) (sym (map_more (λ a. a.now) found i item c.loop-at-test.true))
