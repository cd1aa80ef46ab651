use Rattle.std.proofs.Common.{◌∙◌, ◌++◌, ◌∷◌, [], append_assoc, ap, map, take, sym, arith}
use Rattle.std.proofs.lemmas.List.{map_more, map_push, take_all}
use Rattle.mq_world.specs.Views.{copy_of, message_of}
use Rattle.mq_subscriptions.specs.Turns.{turn_of}
use Rattle.mq_router.specs.router.Effects.{member_copy}
use Rattle.mq_router.proofs.delivery.add_group_copies.Goals as goal

pub loop-turn-preserved : goal.loop-turn-preserved
loop-turn-preserved c =
    let m = message_of c.args.outgoing.now.message in
    let served = c.args.served.now in
    let i = c.loop-turn.turn-index in
    let item = c.turn-item.result in
    let copy = c.in_ok-group_copy.field-0 in
    let before = map copy_of c.args.copies.now.items in
    let made = map (λ t. member_copy m (turn_of t)) (take i served) in
    ap (map copy_of) c.in_ok-push.ensures.items
    ∙ map_push copy_of c.loop-turn.copies.items copy
    ∙ ap (λ l. l ++ copy_of copy ∷ []) c.loop-turn.invariant
    ∙ append_assoc before made (copy_of copy ∷ [])
    ∙ ap (λ k. before ++ (made ++ k ∷ []))
    (c.in_ok-group_copy.ensures ∙ ap (λ t. member_copy m (turn_of t)) c.turn-item.is)
    ∙ ap (λ l. before ++ l)
    (sym (map_more (λ t. member_copy m (turn_of t)) served i item c.loop-turn-test.true))

pub returns : goal.returns
returns c = grind (arith, take_all)
