use Rattle.std.proofs.Common.{lit<, rules, tests}
use Rattle.std.proofs.lemmas.Iterator.Splits.{YieldsList-from_str_split}
use Rattle.std.proofs.lemmas.Iterator.Search.{any_from_yields_List}
use Rattle.mq_ask_who.specs.Who.{has_word}
use Rattle.mq_ask_who.proofs.who.is_left_out.Goals as goal

pub returns : goal.returns
returns c = any_from_yields_List (has_word c.args.class.now) _ _ _ c.any.ensures.ran
    (YieldsList-from_str_split 44 c.args.only.now (lit< tt) c.split.ensures.text
    c.split.ensures.has_more c.split.ensures.pattern) (λ x b q k. search (rules, tests))
