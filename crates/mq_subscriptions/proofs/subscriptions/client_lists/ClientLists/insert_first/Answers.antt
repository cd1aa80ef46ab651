use Rattle.std.specs.Rc.{rc_str_bytes}
use Rattle.mq_subscriptions.specs.Filters.{text_key}
use Rattle.mq_subscriptions.proofs.ListedLemmas.{added-first, added-live}
use Rattle.mq_subscriptions.proofs.TextMaps.{live-put}
use Rattle.mq_subscriptions.proofs.subscriptions.client_lists.ClientLists.insert_first.Goals as goal

pub returns-clause-ok : goal.returns-clause-ok
returns-clause-ok c =
    rw (← c.self.view_is) (added-first (rc_str_bytes c.args.client.now) (text_key c.args.text.now)
    c.self.inside.by_client.entries c.in_ok-client.client c.in_ok-client.ensures.cases
    (rw (← c.self.view_is) at c.requires.absent) c.insert.new.self c.insert-2.new.self.entries
    c.in_ok-insert-2.ensures.entries
    (λ s. rw c.new-filters.ensures at (c.in_ok-insert.ensures.ok s)))

pub invariant_of-self-2 : goal.invariant_of-self-2
invariant_of-self-2 c = record {
  live = rw c.in_ok-insert-2.ensures.entries (live-put c.self.inside.by_client.entries
      c.in_ok-client.client c.insert.new.self (added-live (text_key c.args.text.now)
      c.new-filters.result c.insert.new.self c.in_ok-insert.ensures.ok) c.self.invariant.live);
  ordered = c.insert-2.ensures.ordered;
}

pub invariant_of-self : goal.invariant_of-self
invariant_of-self c = record {
  live = rw c.in_err-insert-2.ensures.err c.self.invariant.live;
  ordered = c.insert-2.ensures.ordered;
}
