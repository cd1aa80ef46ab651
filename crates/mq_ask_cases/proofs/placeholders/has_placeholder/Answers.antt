use Rattle.std.proofs.Common.{lit<, rules, tests}
use Rattle.std.proofs.lemmas.Iterator.Splits.{YieldsList-from_str_split}
use Rattle.std.proofs.lemmas.Iterator.Search.{any_from_yields_List}
use Rattle.mq_ask_cases.specs.Placeholders.{is_placeholder}
use Rattle.mq_ask_cases.proofs.placeholders.has_placeholder.Goals as goal

pub returns : goal.returns
returns c = any_from_yields_List (is_placeholder c.args.difference.now) _ _ _ c.any.ensures.ran
    (YieldsList-from_str_split 47 c.args.text.now (lit< tt) c.split.ensures.text
    c.split.ensures.has_more c.split.ensures.pattern) (λ x b q k. search (rules, tests))
