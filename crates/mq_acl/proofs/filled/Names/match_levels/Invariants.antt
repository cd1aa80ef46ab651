use Rattle.std.proofs.Common.{◌≡◌, true, length}
use Rattle.mq_topic.specs.Levels.{levels, levels_left}
use Rattle.mq_topic.specs.Matching.{level_matches, levels_match_by}
use Rattle.mq_topic.specs.Texts.{wildcards_fit}
use Rattle.mq_acl.specs.Filled.{filled}
use Rattle.mq_acl.proofs.FilledLemmas.{filled_levels}
use Rattle.mq_acl.proofs.filled.Names.match_levels.Given as goal

-- what is left of the filter, filled, matches what is left of the name as the whole does
abbrev pub invariant-loop-filter_rest : goal.invariant-loop-filter_rest
invariant-loop-filter_rest l =
    let client = l.fn.self.client.now in
    let user = l.fn.self.user.now in
    (wildcards_fit (levels_left l.filter_rest) ≡ true)
    × (levels_match_by level_matches (filled_levels client user (levels_left l.filter_rest))
    (levels_left l.name_rest)
    ≡ levels_match_by level_matches (levels (filled client user l.fn.filter)) (levels l.fn.name))

abbrev pub decreases-loop-filter_rest : goal.decreases-loop-filter_rest
decreases-loop-filter_rest l = length (levels_left l.filter_rest)
