use Rattle.mq_subscriptions.proofs.ClientFilterLemmas.{own-insert, asked-insert}
use Rattle.mq_subscriptions.proofs.subscriptions.client_filters.ClientFilters.insert.Goals as goal

pub invariant_of-self-2 : goal.invariant_of-self-2
invariant_of-self-2 c =
    rw c.in_ok-insert.ensures.keys (asked-insert c.in_ok-text.text c.self.inside.texts.keys
    (rw c.in_ok-text.ensures.ok c.requires) c.self.invariant)

pub returns-clause-ok : goal.returns-clause-ok
returns-clause-ok c = λ s.
    rw (← c.self.view_is, c.in_ok-insert.ensures.keys, ← c.in_ok-text.ensures.ok)
    (own-insert c.in_ok-text.text c.self.inside.texts.keys s)
