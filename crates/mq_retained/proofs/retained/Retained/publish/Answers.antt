use Rattle.std.proofs.Common.{◌∙◌, ap, sym, subst, not, true, false, List, ℕ, Option}
use Rattle.std.proofs.lemmas.Result.{on_ok_weaker}
use Rattle.mq_world.specs.World.{Retained, Message, retained_cmp}
use Rattle.mq_world.specs.Retained.{has_topic}
use Rattle.mq_retained.specs.Stored.{stored_until, AreNear}
use Rattle.mq_world.specs.Views.{message_of}
use Rattle.mq_world.specs.Lists.{with_row}
use Rattle.mq_retained.proofs.NearLemmas.{near-with_row, near-filter}
use Rattle.mq_retained.proofs.FiledLemmas.{after-unretained, after-by}
use Rattle.mq_retained.proofs.retained.Retained.publish.Goals as goal

pub returns-then-not-message-clause-ok : goal.returns-then-not-message-clause-ok
returns-then-not-message-clause-ok c =
    λ moment same. sym (after-unretained moment c.args.self.now.messages
    (message_of c.args.message.now) c.if-not-message.true)

pub returns-then-not-is_stored-clause-near : goal.returns-then-not-is_stored-clause-near
returns-then-not-is_stored-clause-near c =
    λ moment due near. subst (λ retained. AreNear moment retained) (sym c.clear.ensures.rest)
    (near-filter moment (λ kept. not (has_topic c.args.message.now.topic.now kept))
    c.args.self.now.messages near)

pub returns-clause-near : goal.returns-clause-near
returns-clause-near c =
    let kept : Retained = stored_until c.args.message.now.deadline (message_of c.args.message.now)
    in
    on_ok_weaker c.store.result (λ e moment due near.
    subst (λ retained. AreNear moment retained) (sym e)
    (near-with_row moment kept c.args.self.now.messages due near)) c.store.ensures.ok

pub returns-then-not-is_stored-clause-ok : goal.returns-then-not-is_stored-clause-ok
returns-then-not-is_stored-clause-ok c =
    let m : Message = message_of c.args.message.now in
    λ now same. c.clear.ensures.rest
    ∙ sym (after-by now c.args.self.now.messages m false c.if-not-message.false
    (sym c.is_stored.ensures ∙ c.if-not-is_stored.true))

pub returns-clause-ok : goal.returns-clause-ok
returns-clause-ok c =
    let m : Message = message_of c.args.message.now in
    let kept : Option ℕ → List Retained =
    λ deadline. with_row retained_cmp (stored_until deadline m) c.args.self.now.messages in
    on_ok_weaker c.store.result (λ e now same.
    e ∙ ap kept same
    ∙ sym (after-by now c.args.self.now.messages m true c.if-not-message.false
    (sym c.is_stored.ensures ∙ c.if-not-is_stored.false))) c.store.ensures.ok
