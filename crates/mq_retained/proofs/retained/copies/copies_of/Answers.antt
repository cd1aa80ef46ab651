use Rattle.std.proofs.Common.{◌≡◌, ◌∙◌, ◌<◌, ◌+◌, ◌++◌, ◌∷◌, [], ◌^◌, ap, sym, subst, map, take}
use Rattle.std.proofs.Common.{get_or, true, false}
use Rattle.std.specs.List.{filter}
use Rattle.std.specs.Option.{IfSome, option_copied}
use Rattle.std.proofs.lemmas.List.{map_push, take_all}
use Rattle.mq_retained.specs.Stored.{may_get, message_in}
use Rattle.mq_world.specs.Retained.{retained_copy}
use Rattle.mq_world.specs.Views.{copy_of}
use Rattle.mq_retained.specs.Receivers.{subscription_for}
use Rattle.mq_retained.proofs.SendingLemmas.{near_at, sent_more, held_more}
use Rattle.mq_retained.proofs.retained.copies.copies_of.Goals as goal

pub retained_copy-requires : goal.retained_copy-requires
retained_copy-requires c =
    subst (λ s. IfSome (message_in s.now).deadline
    (λ d. d < c.args.receiver.now.clock.moment + 2 ^ 32)) (sym c.stored-item.is)
    (near_at (λ s. message_in s.now) c.args.receiver.now.clock.moment c.args.found.now
    c.loop-stored.stored-index c.stored-item.result c.requires c.loop-stored-test.true)

pub loop-stored-preserved : goal.loop-stored-preserved
loop-stored-preserved c =
    let r = c.args.receiver.now in
    let s = subscription_for r in
    let p = may_get r.access.now (option_copied r.user) s in
    let g = retained_copy r.clock.moment s in
    let i = c.loop-stored.stored-index in
    let found = c.args.found.now in
    let item = c.stored-item.result in
    let passes : p (message_in (get_or found i item).now) ≡ true =
    ap (λ v. p (message_in v.now)) (sym c.stored-item.is) ∙ sym c.may_get.ensures
    ∙ c.if-not-may_get.false in
    ap (map copy_of) c.in_ok-push.ensures.items
    ∙ map_push copy_of c.loop-stored.copies.items c.in_ok-retained_copy.field-0
    ∙ ap (λ l. l ++ copy_of c.in_ok-retained_copy.field-0 ∷ []) c.loop-stored.invariant
    ∙ ap (λ k. map g (filter p (map (λ v. message_in v.now) (take i found))) ++ k ∷ [])
    (c.in_ok-retained_copy.ensures ∙ ap (λ v. g (message_in v.now)) c.stored-item.is)
    ∙ sym (sent_more (λ v. message_in v.now) p g found i item c.loop-stored-test.true passes)

pub loop-stored-preserved-then-not-may_get : goal.loop-stored-preserved-then-not-may_get
loop-stored-preserved-then-not-may_get c =
    let r = c.args.receiver.now in
    let s = subscription_for r in
    let p = may_get r.access.now (option_copied r.user) s in
    let i = c.loop-stored.stored-index in
    let found = c.args.found.now in
    let item = c.stored-item.result in
    let fails : p (message_in (get_or found i item).now) ≡ false =
    ap (λ v. p (message_in v.now)) (sym c.stored-item.is) ∙ sym c.may_get.ensures
    ∙ c.if-not-may_get.true in
    c.loop-stored.invariant
    ∙ sym (held_more (λ v. message_in v.now) p (retained_copy r.clock.moment s) found i item
    c.loop-stored-test.true fails)

pub returns : goal.returns
returns c =
    let r = c.args.receiver.now in
    let s = subscription_for r in
    let p = may_get r.access.now (option_copied r.user) s in
    c.loop-stored.invariant
    ∙ ap (λ found. map (retained_copy r.clock.moment s)
    (filter p (map (λ v. message_in v.now) found)))
    (take_all c.loop-stored.stored-index c.args.found.now c.loop-stored-test.false)
