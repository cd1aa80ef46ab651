use Rattle.std.proofs.Common.{◌∙◌, sym, refl}
use Rattle.mq_subscriptions.proofs.EntryLemmas.{group-any, group-absent_any}
use Rattle.mq_subscriptions.proofs.subscriptions.share_groups.ShareGroups.contains.Goals as goal

pub returns-in-Some : goal.returns-in-Some
returns-in-Some c = λ f.
    c.contains.ensures
    ∙ rw (← c.self.view_is) (group-any c.args.share.now c.self.inside.by_share.entries
    c.len-count.ensures.ordered c.in-Some.group.now c.in-Some.group.now _
    (rw c.in-Some.is at (sym c.get.ensures.value)) refl f c.args.client.now)

pub returns-in-None : goal.returns-in-None
returns-in-None c = λ f.
    rw (← c.self.view_is) (group-absent_any c.args.share.now c.self.inside.by_share.entries
    (rw c.in-None.is at (sym c.get.ensures.value)) f c.args.client.now)
