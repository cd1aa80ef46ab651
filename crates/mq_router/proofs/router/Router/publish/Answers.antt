use Rattle.std.proofs.Common.{◌∙◌, ap, refl, inr, Err, arith}
use Rattle.mq_router.specs.router.Views.{published_message}
use Rattle.mq_world.specs.World.{Publish, Message}
use Rattle.mq_router.proofs.RouterLemmas.{refused-applied, publish-refused, publish-full}
use Rattle.mq_router.proofs.RouterLemmas.{publish-accepted}
use Rattle.std.proofs.lemmas.Result.{err_from_is_err_and}
use Rattle.mq_router.proofs.router.Router.publish.Goals as goal

pub returns-in_err-id-clause-applied : goal.returns-in_err-id-clause-applied
returns-in_err-id-clause-applied c =
    let m : Message = published_message c.args.client.now c.args.topic.now c.args.payload.now
    c.args.qos c.args.retain c.args.expiry in
    let p = err_from_is_err_and c.from_residual.result c.from_residual.ensures.1 in
    refused-applied c.args.self.now (Publish m) c.from_residual.result
    c.in_err-id.field-0.0 c.args.self.now (p.1 ∙ ap (λ e. Err e) p.2)
    (publish-refused c.args.self.now m _ c.in_err-id.ensures.err)

pub returns-then-is_full-clause-applied : goal.returns-then-is_full-clause-applied
returns-then-is_full-clause-applied c = grind (arith, publish-full)

pub returns-clause-applied : goal.returns-clause-applied
returns-clause-applied c = grind (arith, publish-accepted)

pub returns-then-is_full-clause-counted : goal.returns-then-is_full-clause-counted
returns-then-is_full-clause-counted c = inr refl

pub returns-then-is_full-clause-err : goal.returns-then-is_full-clause-err
returns-then-is_full-clause-err c = refl

pub returns-clause-counted : goal.returns-clause-counted
returns-clause-counted c = grind arith
