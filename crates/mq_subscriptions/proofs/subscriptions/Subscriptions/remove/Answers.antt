use Rattle.mq_subscriptions.specs.Filters.{text_key}
use Rattle.mq_subscriptions.proofs.AnyLemmas.{listed-left}
use Rattle.mq_subscriptions.proofs.KeyLemmas.{kept-keys}
use Rattle.mq_subscriptions.proofs.subscriptions.Subscriptions.remove.Goals as goal

pub invariant_of-self : goal.invariant_of-self
invariant_of-self c = record {
  listed = listed-left c.args.client.now (text_key c.args.text.now) c.self.inside.tree
      c.remove_counted-existed.new.tree c.self.inside.lists c.remove.new.self
      c.self.invariant.listed c.remove_counted-existed.ensures.kept
      c.remove_counted-existed.ensures.rows c.remove.ensures;
  counted = c.remove_counted-existed.ensures.counted;
}

pub returns-clause-keys : goal.returns-clause-keys
returns-clause-keys c = kept-keys c.remove_counted-existed.new.tree c.remove_counted-existed.ensures.kept
