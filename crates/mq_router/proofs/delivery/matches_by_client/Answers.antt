use Rattle.std.proofs.Common.{◌≡◌, ◌∙◌, ◌++◌, ◌∷◌, [], List, ap, arith, map, take, get_or, sym}
use Rattle.std.proofs.lemmas.Grind.{common_steps}
use Rattle.std.proofs.lemmas.List.{map_more, take_all}
use Rattle.mq_world.specs.Views.{message_of}
use Rattle.mq_world.specs.World.{Message}
use Rattle.mq_subscriptions.specs.Filters.{Entry}
use Rattle.mq_subscriptions.specs.Matches.{rows_found, unshared_matches}
use Rattle.mq_router.proofs.delivery.matches_by_client.Goals as goal

one-more : (m : Message) (found : List Entry) (a : Entry)
    → unshared_matches m (rows_found (found ++ a ∷ []))
    ≡ unshared_matches m (rows_found found) ++ unshared_matches m a.rows
one-more m found a = grind (arith, common_steps)

pub loop-at-preserved : goal.loop-at-preserved
loop-at-preserved c =
    let m = message_of c.args.message.now in
    let i = c.loop-at.at-index in
    let found = c.args.found.now in
    let item = c.at-item.result in
    let before : List Entry = map (λ a. a.now) (take i found) in
    c.in_ok-gather_matches.ensures
    ∙ ap (λ l. l ++ unshared_matches m item.now.rows) c.loop-at.invariant
    ∙ ap (λ a. unshared_matches m (rows_found before) ++ unshared_matches m a.now.rows) c.at-item.is
    ∙ sym (one-more m before (get_or found i item).now)
    ∙ ap (λ l. unshared_matches m (rows_found l))
    (sym (map_more (λ a. a.now) found i item c.loop-at-test.true))

pub returns-clause-sorted : goal.returns-clause-sorted
returns-clause-sorted c = c.in_ok-sort_by_client.ensures.sorted

pub returns-clause-options : goal.returns-clause-options
returns-clause-options c = grind (arith, take_all)
