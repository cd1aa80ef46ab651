use Rattle.std.proofs.Common.{lit<, rules, tests, ap, ◌∙◌}
use Rattle.std.specs.Str.Iter.{split_text, split_has_more, split_pattern}
use Rattle.std.proofs.lemmas.Iterator.{YieldsList-from_slice, YieldsList-from_zip}
use Rattle.std.proofs.lemmas.Iterator.Search.{all_from_yields_List}
use Rattle.std.proofs.lemmas.Iterator.Splits.{YieldsList-from_str_split}
use Rattle.mq_topic.specs.Levels.{levels}
use Rattle.mq_rename.specs.Renames.{has_place}
use Rattle.mq_rename.proofs.rename.have_places.Goals as goal

pub returns : goal.returns
returns c =
    let first = c.zip.ensures.first in
    let split = c.split.ensures in
    all_from_yields_List (has_place (levels c.args.left.now)) c.all.new.self _ _ c.all.ensures.ran
    (YieldsList-from_zip
    (YieldsList-from_str_split 47 c.args.right.now (lit< tt)
    (ap split_text first ∙ split.text ∙ c.text.ensures.text)
    (ap split_has_more first ∙ split.has_more) (ap split_pattern first ∙ split.pattern))
    (YieldsList-from_slice c.args.places.now c.zip.ensures.second.0))
    (λ x b q k. search (rules, tests))
