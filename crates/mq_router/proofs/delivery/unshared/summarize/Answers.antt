use Rattle.std.proofs.Common.{◌∙◌, ◌∷◌, [], ap}
use Rattle.mq_world.specs.Views.{options_of}
use Rattle.mq_router.specs.delivery.Summaries.{summary_of, together}
use Rattle.mq_subscriptions.specs.declared.subscriptions.matches.Match.{Match}
use Rattle.mq_router.proofs.ClientLemmas.{summary-more}
use Rattle.mq_router.proofs.delivery.unshared.summarize.Goals as goal

pub loop-one-preserved : goal.loop-one-preserved
loop-one-preserved c =
    summary-more c.args.matches.now c.loop-one.one-index c.one-item.result c.loop-one.summary
    c.add.new.self c.loop-one-test.true c.loop-one.invariant
    (c.in_ok-add.ensures
    ∙ ap (λ (x : Match). together c.loop-one.summary (summary_of (options_of x.options ∷ [])))
    c.one-item.is)
