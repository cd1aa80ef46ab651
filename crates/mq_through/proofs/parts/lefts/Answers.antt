use Rattle.std.proofs.Common.{rules, tests}
use Rattle.std.proofs.lemmas.Iterator.Consumers.{map_from_collect, YieldsList-at}
use Rattle.std.proofs.lemmas.Iterator.{YieldsList-from_map_by, YieldsList-from_slice}
use Rattle.mq_plan.specs.Names.{left_of}
use Rattle.mq_through.proofs.parts.lefts.Goals as goal

pub returns : goal.returns
returns c = map_from_collect _ c.collect.ensures.ran
    (YieldsList-from_map_by _ (λ r. r.now) left_of
    (YieldsList-at c.map.ensures.source (YieldsList-from_slice c.args.rules.now cc))
    c.map.ensures.closure (λ x r q k. search (rules, tests)))
