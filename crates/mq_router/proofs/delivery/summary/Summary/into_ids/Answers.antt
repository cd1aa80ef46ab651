use Rattle.std.proofs.Common.{◌∙◌, ap}
use Rattle.mq_world.specs.Lists.{ascending}
use Rattle.mq_router.specs.delivery.Summaries.{Summary}
use Rattle.mq_router.proofs.CopyLemmas.{sorted-is}
use Rattle.mq_router.proofs.delivery.summary.Summary.into_ids.Goals as goal

pub returns : goal.returns
returns c =
    sorted-is c.self.inside.ids.items c.sort_unstable.new.self.items
    c.sort_unstable.ensures.permutation c.sort_unstable.ensures.sorted
    ∙ ap (λ (s : Summary). ascending s.identifiers) c.self.view_is
