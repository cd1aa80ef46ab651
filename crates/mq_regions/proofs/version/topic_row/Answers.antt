use Rattle.std.proofs.lemmas.Result.{IfOk-weaker}
use Rattle.mq_regions.proofs.GroupLemmas.{topic_group}
use Rattle.mq_regions.proofs.version.topic_row.Goals as goal

pub returns-clause-group : goal.returns-clause-group
returns-clause-group c =
    IfOk-weaker c.carried_row.result _ _
    (λ made is. topic_group c.args.row.now c.args.asked.now.client.now made is
    c.requires.owner c.requires.asked.short_kind c.requires.filter)
    (rw c.in_ok-owner.ensures at c.carried_row.ensures.row)
