use Rattle.std.proofs.Common.{rules, tests, Bor, List, ℕ, ◌∙◌}
use Rattle.std.proofs.lemmas.Iterator.{YieldsList-from_slice}
use Rattle.std.proofs.lemmas.Iterator.Search.{any_from_yields_List}
use Rattle.mq_topic.specs.Levels.{levels}
use Rattle.mq_rename.specs.Lists.{has_long, is_long}
use Rattle.mq_regions.proofs.TextLemmas.{any_level}
use Rattle.mq_regions.proofs.limit.is_some_long.Goals as goal

pub returns : goal.returns
returns c =
    any_from_yields_List (λ (b : Bor (List ℕ)). has_long (levels b.now)) _ _ _ c.any.ensures.ran
    (YieldsList-from_slice c.args.filters.now c.iter.ensures.rest)
    (λ x b q k. search (rules, tests))
    ∙ any_level is_long c.args.filters.now
