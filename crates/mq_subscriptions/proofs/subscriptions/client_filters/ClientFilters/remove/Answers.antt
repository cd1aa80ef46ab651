use Rattle.std.specs.Rc.{rc_str_bytes}
use Rattle.mq_subscriptions.specs.Filters.{is_text}
use Rattle.mq_subscriptions.proofs.ClientFilterLemmas.{own-remove, asked-remove}
use Rattle.mq_subscriptions.proofs.subscriptions.client_filters.ClientFilters.remove.Goals as goal

pub invariant_of-self : goal.invariant_of-self
invariant_of-self c =
    rw c.remove.ensures.keys (asked-remove (λ k. is_text c.args.text.now (rc_str_bytes k))
    c.self.inside.texts.keys c.self.invariant)

pub returns : goal.returns
returns c = λ s.
    rw (← c.self.view_is, c.remove.ensures.keys) (own-remove c.args.text.now
    c.self.inside.texts.keys c.requires c.self.invariant c.len-count.ensures.ordered s)
