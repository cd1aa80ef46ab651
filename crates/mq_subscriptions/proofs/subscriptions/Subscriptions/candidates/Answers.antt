use Rattle.mq_subscriptions.proofs.FoundLemmas.{found-rows, found-order}
use Rattle.mq_subscriptions.proofs.subscriptions.Subscriptions.candidates.Goals as goal

pub returns-clause-rows : goal.returns-clause-rows
returns-clause-rows c =
    rw (c.in_ok-for_name.ensures.found, ← c.self.view_is)
    (found-rows c.args.name.now c.self.inside.tree c.self.invariant.listed.kept.each)

pub returns-clause-order : goal.returns-clause-order
returns-clause-order c =
    rw c.in_ok-for_name.ensures.found (found-order c.args.name.now c.self.inside.tree
    c.self.invariant.listed.kept.each c.self.invariant.listed.kept.ordered)
