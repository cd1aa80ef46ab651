use Rattle.std.proofs.Common.{lit<, rules, tests, arith, not, ap, ◌∙◌, ◌-◌}
use Rattle.std.specs.Str.Iter.{split_text, split_has_more, split_pattern}
use Rattle.std.proofs.lemmas.Iterator.{YieldsList-from_take}
use Rattle.std.proofs.lemmas.Iterator.Splits.{YieldsList-from_str_split}
use Rattle.std.proofs.lemmas.Iterator.Search.{all_from_yields_List}
use Rattle.mq_topic.specs.Texts.{contains_byte}
use Rattle.mq_topic.proofs.Walk.{levels-nonempty}
use Rattle.mq_topic.proofs.validity.has_hash_last.Goals as goal

pub overflow_sub-parents : goal.overflow_sub-parents
overflow_sub-parents c = omega (arith, levels-nonempty c.args.text.now)

pub returns : goal.returns
returns c =
    let from = c.take.ensures.source in
    let split = c.split.ensures in
    all_from_yields_List {v = λ x. x.now} (λ l. not (contains_byte 35 l)) _ _ _ c.all.ensures.ran
    (YieldsList-from_take _ (YieldsList-from_str_split 47 c.args.text.now (lit< tt)
    (ap split_text from ∙ split.text) (ap split_has_more from ∙ split.has_more)
    (ap split_pattern from ∙ split.pattern))
    (c.take.ensures.count ∙ ap (λ n. n - 1) c.count-parents.ensures))
    (λ x b q k. search (rules, tests))
