use Rattle.mq_world.proofs.TextKeys.{finds}
use Rattle.mq_subscriptions.proofs.TextMaps.{lookup-texts, live-out}
use Rattle.mq_subscriptions.proofs.ListedLemmas.{others-there}
use Rattle.mq_subscriptions.proofs.subscriptions.client_lists.ClientLists.take.Goals as goal

pub returns-clause-taken : goal.returns-clause-taken
returns-clause-taken c =
    rw (← c.self.view_is, lookup-texts c.args.client.now c.self.inside.by_client.entries)
    c.remove.ensures.value

pub returns-clause-rest : goal.returns-clause-rest
returns-clause-rest c =
    rw (← c.self.view_is) (others-there c.args.client.now c.self.inside.by_client.entries
    c.self.invariant.ordered c.remove.new.self.entries c.remove.ensures.entries)

pub invariant_of-self : goal.invariant_of-self
invariant_of-self c = record {
  live = rw c.remove.ensures.entries (live-out (finds c.args.client.now)
      c.self.inside.by_client.entries c.self.invariant.live);
  ordered = c.remove.ensures.ordered;
}
