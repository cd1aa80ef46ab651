use Rattle.mq_subscriptions.proofs.Members.{removed-texts}
use Rattle.mq_subscriptions.proofs.subscriptions.group.Group.remove.Goals as goal

pub returns : goal.returns
returns c =
    rw (← c.self.view_is, c.shift_remove.ensures.entries)
    (removed-texts c.args.client.now c.self.inside.members.entries c.len-count.ensures.unique)
