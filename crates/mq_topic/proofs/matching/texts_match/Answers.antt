use Rattle.std.proofs.Common.{sym, ◌∙◌}
use Rattle.mq_topic.specs.Levels.{levels}
use Rattle.mq_topic.specs.Matching.{level_matches, levels_match_by}
use Rattle.mq_topic.proofs.Walk.{shown}
use Rattle.mq_topic.proofs.matching.texts_match.Goals as goal

pub returns-then-not-is_hidden : goal.returns-then-not-is_hidden
returns-then-not-is_hidden c =
    c.levels_match.ensures
    ∙ sym (shown (levels c.args.filter.now) c.args.name.now
    (sym c.is_hidden.ensures ∙ c.if-not-is_hidden.true))
