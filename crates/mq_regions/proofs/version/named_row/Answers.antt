use Rattle.std.proofs.lemmas.Result.{IfOk-weaker}
use Rattle.mq_regions.proofs.GroupLemmas.{named_group, unnamed_group}
use Rattle.mq_regions.proofs.version.named_row.Goals as goal

pub returns-in_default-clause-group : goal.returns-in_default-clause-group
returns-in_default-clause-group c =
    unnamed_group c.args.row.now c.args.asked.now.client.now c.args.text.now c.args.filter.now
    (rw c.in_default.is at c.in_ok-filter.ensures.filled)

pub returns-clause-group : goal.returns-clause-group
returns-clause-group c =
    let filled = rw c.in-Some.is at c.in_ok-filter.ensures.filled in
    IfOk-weaker c.carried_row.result _ _
    (λ made is. named_group c.args.row.now c.args.asked.now.client.now c.args.text.now made is
    filled c.requires.client c.requires.asked.short_kind c.requires.text)
    (rw c.in_ok-from_str.ensures.ok at c.carried_row.ensures.row)
