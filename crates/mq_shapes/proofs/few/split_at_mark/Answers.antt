use Rattle.std.proofs.Common.{◌∙◌, ap, sym}
use Rattle.mq_topic.specs.Levels.{levels, levels_left}
use Rattle.mq_shapes.proofs.CountLemmas.{passed_more}
use Rattle.mq_shapes.proofs.CoveredLemmas.{slash_free}
use Rattle.mq_shapes.proofs.few.split_at_mark.Goals as goal

pub level_count-requires : goal.level_count-requires
level_count-requires c = slash_free c.in-Some.text.now c.split_first.result.0.now
    (levels_left c.split_first.result.1) c.split_first.ensures

pub loop-rest-preserved : goal.loop-rest-preserved
loop-rest-preserved c =
    passed_more c.args.pattern c.args.user (levels c.args.text.now)
    (levels_left c.loop-rest.rest) c.loop-rest.count c.split_first.result.0.now
    (levels_left c.split_first.result.1) c.in_ok-more.more c.in_ok-count.count
    (ap levels_left c.in-Some.is ∙ c.split_first.ensures)
    (sym c.is_mark.ensures ∙ c.if-is_mark.false) c.in_ok-more.ensures
    c.in_ok-count.ensures.1 c.loop-rest.invariant
