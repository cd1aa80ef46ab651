use Rattle.std.proofs.Common.{◌≡◌, map, take}
use Rattle.mq_world.specs.Views.{options_of}
use Rattle.mq_router.specs.delivery.Summaries.{summary_of}
use Rattle.mq_router.proofs.delivery.unshared.summarize.Given as goal

abbrev pub invariant-loop-one : goal.invariant-loop-one
invariant-loop-one l = l.summary ≡ summary_of
    (map (λ x. options_of x.options) (take l.one-index l.matches))
