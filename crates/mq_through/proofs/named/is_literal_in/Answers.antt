use Rattle.std.proofs.Common.{lit<, rules, tests, not, ◌&&◌, bytes_eq}
use Rattle.std.proofs.lemmas.Iterator.Splits.{YieldsList-from_str_split}
use Rattle.std.proofs.lemmas.Iterator.Search.{any_from_yields_List}
use Rattle.mq_topic.specs.Matching.{is_wildcard}
use Rattle.mq_through.proofs.named.is_literal_in.Goals as goal

pub returns : goal.returns
returns c =
    any_from_yields_List (λ w. bytes_eq c.args.text.now w && not (is_wildcard w)) _ _ _
    c.any.ensures.ran
    (YieldsList-from_str_split 47 c.args.filter.now (lit< tt) c.split.ensures.text
    c.split.ensures.has_more c.split.ensures.pattern) (λ x b q k. search (rules, tests))
