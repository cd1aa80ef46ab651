use Rattle.mq_subscriptions.proofs.EntryLemmas.{none-is}
use Rattle.mq_subscriptions.proofs.subscriptions.share_groups.ShareGroups.is_empty.Goals as goal

pub returns : goal.returns
returns c = λ f.
    rw (← c.self.view_is) (none-is f c.self.inside.by_share.entries c.self.invariant
    c.is_empty.result c.is_empty.ensures)
