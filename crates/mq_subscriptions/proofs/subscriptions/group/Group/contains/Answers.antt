use Rattle.std.proofs.Common.{◌∙◌}
use Rattle.mq_subscriptions.proofs.Members.{contains-texts}
use Rattle.mq_subscriptions.proofs.subscriptions.group.Group.contains.Goals as goal

pub returns : goal.returns
returns c =
    rw (← c.self.view_is) (c.is_some.ensures ∙ c.get_index_of.ensures.found
    ∙ contains-texts c.args.client.now c.self.inside.members.entries)
