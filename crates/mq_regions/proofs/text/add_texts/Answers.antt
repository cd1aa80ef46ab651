use Rattle.std.proofs.Common.{◌||◌, ◌&&◌, lit<, ap, ◌∙◌}
use Rattle.std.specs.List.{list_any}
use Rattle.std.specs.Str.Iter.{split_text, split_has_more, split_pattern}
use Rattle.std.proofs.lemmas.Iterator.Consumers.{YieldsList-end}
use Rattle.std.proofs.lemmas.Iterator.Splits.{YieldsList-from_str_split}
use Rattle.mq_rename.specs.Lists.{texts}
use Rattle.mq_regions.specs.Own.{is_own}
use Rattle.mq_regions.proofs.text.add_texts.Goals as goal

pub returns : goal.returns
returns c = λ p.
    let same = c.into_iter-level-iterator.ensures.into_iter_gives in
    let split = c.split-level-items.ensures in
    let end = YieldsList-end (YieldsList-from_str_split 47 c.args.text.now (lit< tt)
    (ap split_text same ∙ split.text) (ap split_has_more same ∙ split.has_more)
    (ap split_pattern same ∙ split.pattern))
    c.loop-level.yielded c.loop-level.level-iterator c.loop-level.yielded_by c.next.result
    c.next.new.self c.in-None.is c.next.ensures.steps in
    c.loop-level.invariant.added p
    ∙ ap (λ ls. list_any p (texts c.args.found.now.items)
    || list_any (λ level. is_own level && p level) ls) end.0
