use Rattle.std.proofs.Common.{lit<, rules, tests}
use Rattle.std.specs.Str.{bytes_eq}
use Rattle.std.proofs.lemmas.Iterator.Splits.{YieldsList-from_str_split}
use Rattle.std.proofs.lemmas.Iterator.Search.{any_from_yields_List}
use Rattle.mq_shapes.proofs.filled.has_level.Goals as goal

pub returns : goal.returns
returns c = any_from_yields_List (λ l. bytes_eq l c.args.wanted.now) _ _ _ c.any.ensures.ran
    (YieldsList-from_str_split 47 c.args.text.now (lit< tt) c.split.ensures.text
    c.split.ensures.has_more c.split.ensures.pattern) (λ x b q k. search (rules, tests))
