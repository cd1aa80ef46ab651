use Rattle.std.proofs.Common.{lit<, rules, tests}
use Rattle.std.proofs.lemmas.Iterator.Splits.{YieldsList-from_str_split}
use Rattle.std.proofs.lemmas.Iterator.Search.{all_from_yields_List}
use Rattle.mq_acl.specs.Lines.{is_pattern_level}
use Rattle.mq_acl.proofs.entry.has_whole_marks.Goals as goal

pub returns : goal.returns
returns c = all_from_yields_List is_pattern_level _ _ _ c.all.ensures.ran
    (YieldsList-from_str_split 47 c.args.topic.now (lit< tt) c.split.ensures.text
    c.split.ensures.has_more c.split.ensures.pattern) (λ x b q k. search (rules, tests))
