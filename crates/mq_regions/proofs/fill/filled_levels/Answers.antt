use Rattle.std.proofs.Common.{lit<, ap, ◌∙◌}
use Rattle.std.specs.Str.Iter.{split_text, split_has_more, split_pattern}
use Rattle.std.proofs.lemmas.Iterator.Consumers.{YieldsList-end}
use Rattle.std.proofs.lemmas.Iterator.Splits.{YieldsList-from_str_split}
use Rattle.mq_regions.specs.Filled.{fill_levels}
use Rattle.mq_regions.proofs.fill.filled_levels.Goals as goal

pub returns : goal.returns
returns c =
    let same = c.into_iter-level-iterator.ensures.into_iter_gives in
    let split = c.split-level-items.ensures in
    let end = YieldsList-end (YieldsList-from_str_split 47 c.args.filter.now (lit< tt)
    (ap split_text same ∙ split.text) (ap split_has_more same ∙ split.has_more)
    (ap split_pattern same ∙ split.pattern))
    c.loop-level.yielded c.loop-level.level-iterator c.loop-level.yielded_by c.next.result
    c.next.new.self c.in-None.is c.next.ensures.steps in
    c.loop-level.invariant.made ∙ ap (fill_levels c.args.mark.now c.args.text.now) end.0
