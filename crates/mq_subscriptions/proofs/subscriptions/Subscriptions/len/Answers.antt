use Rattle.mq_subscriptions.proofs.subscriptions.Subscriptions.len.Goals as goal

pub returns : goal.returns
returns c = rw (← c.self.view_is) c.self.invariant.counted.number
