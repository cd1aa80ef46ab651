use Rattle.std.proofs.Common.{lit<, rules, tests, ◌∙◌, not}
use Rattle.std.proofs.lemmas.Iterator.Consumers.{count_from_yields_List, YieldsList-at}
use Rattle.std.proofs.lemmas.Iterator.Search.{YieldsList-from_take_while}
use Rattle.std.proofs.lemmas.Iterator.Splits.{YieldsList-from_str_split}
use Rattle.std.proofs.lemmas.List.Folds.{length-prefix_len}
use Rattle.std.specs.Str.{bytes_eq}
use Rattle.mq_topic.specs.Levels.{levels}
use Rattle.mq_plan.proofs.places.place_among.Goals as goal

pub returns : goal.returns
returns c = count_from_yields_List _ _ c.count.ensures.ran
    (YieldsList-from_take_while {s = c.take_while.result} _ (λ l. not (bytes_eq c.args.level.now l))
    (YieldsList-at c.take_while.ensures.source
    (YieldsList-from_str_split 47 c.args.text.now (lit< tt) c.split.ensures.text
    c.split.ensures.has_more c.split.ensures.pattern)) c.take_while.ensures.closure
    c.take_while.ensures.done (λ x r q k. search (rules, tests)))
    ∙ length-prefix_len (λ l. not (bytes_eq c.args.level.now l)) (levels c.args.text.now)
