use Rattle.std.proofs.Common.{lit<, rules, tests, ◌∙◌}
use Rattle.std.proofs.lemmas.Iterator.Consumers.{YieldsList-at, YieldsList-from_filter}
use Rattle.std.proofs.lemmas.Iterator.Consumers.{count_from_yields_List}
use Rattle.std.proofs.lemmas.Iterator.Splits.{YieldsList-from_str_split}
use Rattle.std.proofs.lemmas.List.Sums.{length-filter}
use Rattle.std.specs.Str.{bytes_eq}
use Rattle.mq_topic.specs.Levels.{levels}
use Rattle.mq_plan.proofs.pair.times.Goals as goal

pub returns : goal.returns
returns c = count_from_yields_List _ _ c.count.ensures.ran
    (YieldsList-from_filter {s = c.filter.result} _ (bytes_eq c.args.level.now)
    (YieldsList-at c.filter.ensures.source
    (YieldsList-from_str_split 47 c.args.text.now (lit< tt) c.split.ensures.text
    c.split.ensures.has_more c.split.ensures.pattern)) c.filter.ensures.closure
    (λ x r q k. search (rules, tests)))
    ∙ length-filter (bytes_eq c.args.level.now) (levels c.args.text.now)
