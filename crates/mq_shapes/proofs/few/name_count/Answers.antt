use Rattle.mq_topic.specs.Levels.{levels, levels_left}
use Rattle.mq_shapes.proofs.CountLemmas.{text_count}
use Rattle.mq_shapes.proofs.few.name_count.Goals as goal

pub returns : goal.returns
returns c =
    let front = c.in_ok-front.front in
    text_count (levels c.args.name.now) front.count (levels_left front.rest)
    c.in_ok-front.ensures.passed c.in_ok-front.ensures.marked
