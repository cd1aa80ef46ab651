use Rattle.std.proofs.Common.{rules}
use Rattle.mq_subscriptions.proofs.Members.{joined-texts}
use Rattle.mq_subscriptions.proofs.subscriptions.group.Group.insert.Goals as goal

pub returns-clause-ok : goal.returns-clause-ok
returns-clause-ok c =
    rw (← c.self.view_is, c.in_ok-insert.ensures.entries) (joined-texts
    c.self.inside.members.entries c.args.client c.args.options c.len-count.ensures.unique)

pub returns-in_err-insert-clause-err : goal.returns-in_err-insert-clause-err
returns-in_err-insert-clause-err c = search rules
