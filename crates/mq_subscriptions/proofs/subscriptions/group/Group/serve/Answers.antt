use Rattle.std.proofs.Common.{◌∙◌, sym}
use Rattle.mq_subscriptions.proofs.Members.{turned-texts, turned-none}
use Rattle.mq_subscriptions.proofs.subscriptions.group.Group.serve.Goals as goal

pub returns-in-Some : goal.returns-in-Some
returns-in-Some c =
    rw (← c.self.view_is, c.move_index.ensures.entries)
    (turned-texts c.args.client.now c.self.inside.members.entries c.in-Some.place
    c.len-count.result c.len-count.ensures.unique
    (sym c.get_index_of.ensures.index ∙ c.in-Some.is) c.len-count.ensures.len)

pub returns-in-None : goal.returns-in-None
returns-in-None c =
    rw (← c.self.view_is) (turned-none c.args.client.now c.self.inside.members.entries
    (sym c.get_index_of.ensures.index ∙ c.in-None.is))
