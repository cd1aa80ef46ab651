use Rattle.std.proofs.Common.{◌-◌, length, lit<, arith, ap, ◌∙◌}
use Rattle.std.specs.Iterator.Adapters.{zip_first, zip_second}
use Rattle.std.specs.List.{flat_map}
use Rattle.std.specs.Slice.Iter.{iter_rest}
use Rattle.std.specs.Str.Iter.{split_text, split_has_more, split_pattern}
use Rattle.std.proofs.lemmas.Iterator.{YieldsList-from_slice, YieldsList-from_zip}
use Rattle.std.proofs.lemmas.Iterator.Consumers.{YieldsList-end}
use Rattle.std.proofs.lemmas.Iterator.Splits.{YieldsList-from_str_split}
use Rattle.mq_topic.specs.Levels.{levels}
use Rattle.mq_topic.proofs.Walk.{levels-nonempty}
use Rattle.mq_rename.specs.Renames.{becomes}
use Rattle.mq_rename.proofs.naming.new_levels.Goals as goal

pub overflow_sub-front : goal.overflow_sub-front
overflow_sub-front c = omega (arith, levels-nonempty c.args.left.now)

pub returns : goal.returns
returns c =
    let same = c.into_iter-level-iterator.ensures.into_iter_gives in
    let first = ap zip_first same ∙ c.zip-level-items.ensures.first in
    let split = c.split.ensures in
    let end = YieldsList-end (YieldsList-from_zip
    (YieldsList-from_str_split 47 c.args.right.now (lit< tt)
    (ap split_text first ∙ split.text ∙ c.text-2.ensures.text)
    (ap split_has_more first ∙ split.has_more) (ap split_pattern first ∙ split.pattern))
    (YieldsList-from_slice c.args.places.now
    (ap (λ z. iter_rest (zip_second z)) same ∙ c.zip-level-items.ensures.second.0)))
    c.loop-level.yielded c.loop-level.level-iterator c.loop-level.yielded_by c.next.result
    c.next.new.self c.in-None.is c.next.ensures.steps in
    c.loop-level.invariant.made
    ∙ ap (flat_map (becomes (length (levels c.args.left.now) - 1) (levels c.args.name.now))) end.0
