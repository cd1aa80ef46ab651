use Rattle.std.proofs.Common.{lit<, rules, tests, bytes_eq, ap, sym, ◌∙◌}
use Rattle.std.specs.List.{list_any}
use Rattle.std.proofs.lemmas.Iterator.Splits.{YieldsList-from_str_split}
use Rattle.std.proofs.lemmas.Iterator.Search.{any_from_yields_List}
use Rattle.mq_topic.specs.Levels.{levels_left}
use Rattle.mq_witness.proofs.literals.has_level.Goals as goal

pub returns : goal.returns
returns c =
    any_from_yields_List (λ w. bytes_eq w c.args.mark.now) _ _ _ c.any.ensures.ran
    (YieldsList-from_str_split 47 c.in-Some.text.now (lit< tt) c.split.ensures.text
    c.split.ensures.has_more c.split.ensures.pattern) (λ x b q k. search (rules, tests))
    ∙ sym (ap (λ rest. list_any (λ w. bytes_eq w c.args.mark.now) (levels_left rest)) c.in-Some.is)
