use Rattle.std.proofs.Common.{lit<, rules, tests}
use Rattle.std.proofs.lemmas.Iterator.Consumers.{map_from_collect, YieldsList-at}
use Rattle.std.proofs.lemmas.Iterator.{YieldsList-from_map_by}
use Rattle.std.proofs.lemmas.Iterator.Splits.{YieldsList-from_str_split}
use Rattle.mq_plan.specs.Sides.{plain}
use Rattle.mq_plan.proofs.side.plain_levels.Goals as goal

pub returns : goal.returns
returns c = map_from_collect _ c.collect.ensures.ran (YieldsList-from_map_by _ (λ r. r.now) plain
    (YieldsList-at c.map.ensures.source
    (YieldsList-from_str_split 47 c.args.text.now (lit< tt) c.split.ensures.text
    c.split.ensures.has_more c.split.ensures.pattern)) c.map.ensures.closure
    (λ x r q k. search (rules, tests)))
