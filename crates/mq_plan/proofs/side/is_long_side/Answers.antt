use Rattle.std.proofs.Common.{lit<, rules, tests, ◌≡◌}
use Rattle.std.proofs.lemmas.Iterator.Search.{any_from_yields_List}
use Rattle.std.proofs.lemmas.Iterator.Splits.{YieldsList-from_str_split}
use Rattle.mq_topic.specs.Levels.{levels}
use Rattle.mq_rename.specs.Lists.{has_long, is_long}
use Rattle.mq_plan.proofs.side.is_long_side.Goals as goal

pub returns-else-count-gt-LEVEL_LIMIT : goal.returns-else-count-gt-LEVEL_LIMIT
returns-else-count-gt-LEVEL_LIMIT c =
    let any : c.any.result ≡ has_long (levels c.args.text.now) =
    any_from_yields_List is_long _ _ _ c.any.ensures.ran
    (YieldsList-from_str_split 47 c.args.text.now (lit< tt) c.split.ensures.text
    c.split.ensures.has_more c.split.ensures.pattern) (λ x b q k. search (rules, tests)) in
    search (rules, tests)
