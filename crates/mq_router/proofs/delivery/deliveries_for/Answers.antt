use Rattle.std.proofs.Common.{◌∙◌, ◌++◌, sym, ap, map, List, arith}
use Rattle.std.proofs.lemmas.Simd.{map-map}
use Rattle.mq_world.specs.World.{Message, Copy}
use Rattle.mq_router.specs.router.Effects.{member_copy}
use Rattle.mq_router.specs.delivery.Copies.{copies_by, by_client}
use Rattle.mq_subscriptions.specs.Matches.{match_views}
use Rattle.mq_world.specs.Views.{message_of}
use Rattle.mq_subscriptions.specs.Turns.{turn_of}
use Rattle.mq_router.proofs.delivery.deliveries_for.Goals as goal

pub returns-clause-copies : goal.returns-clause-copies
returns-clause-copies c =
    let own : Message → List Copy = λ m. copies_by c.args.view.now.access.now
    c.args.view.now.sessions.now m (by_client (match_views c.args.matches.now)) in
    let m = message_of c.args.message.now in
    let sent = message_of c.in_ok-outgoing.outgoing.message in
    c.in_ok-add_group_copies.ensures
    ∙ ap (λ l. l ++ map (λ t. member_copy sent (turn_of t)) c.as_slice.result.now)
    c.in_ok-copies.ensures.copies
    ∙ ap (λ l. own sent ++ map (λ t. member_copy sent (turn_of t)) l) c.as_slice.ensures.value
    ∙ ap (λ o. own (message_of o) ++ map (λ t. member_copy (message_of o) (turn_of t))
    c.args.served.items) c.in_ok-outgoing.ensures
    ∙ ap (λ l. own m ++ l) (sym (map-map (member_copy m) turn_of c.args.served.items))

pub returns-clause-queued : goal.returns-clause-queued
returns-clause-queued c = grind arith
