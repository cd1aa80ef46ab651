use Rattle.std.proofs.Common.{◌∙◌, sym}
use Rattle.mq_subscriptions.proofs.AnyLemmas.{listed-gone, all-leave, none-had}
use Rattle.mq_subscriptions.proofs.KeyLemmas.{kept-keys}
use Rattle.mq_subscriptions.proofs.subscriptions.Subscriptions.remove_client.Goals as goal

pub invariant_of-self-2 : goal.invariant_of-self-2
invariant_of-self-2 c = record {
  listed = listed-gone c.args.client.now c.self.inside.tree c.remove_all.new.tree
      c.self.inside.lists c.take.new.self c.self.invariant.listed c.remove_all.ensures.kept
      (c.remove_all.ensures.rows
      ∙ all-leave c.args.client.now c.self.inside.lists c.in-Some.filters c.self.inside.tree
      (sym c.take.ensures.taken ∙ c.in-Some.is) c.self.invariant.listed) c.take.ensures.rest;
  counted = c.remove_all.ensures.counted;
}

pub invariant_of-self : goal.invariant_of-self
invariant_of-self c = record {
  listed = listed-gone c.args.client.now c.self.inside.tree c.self.inside.tree
      c.self.inside.lists c.take.new.self c.self.invariant.listed c.self.invariant.listed.kept
      (none-had c.args.client.now c.self.inside.lists c.self.inside.tree
      (sym c.take.ensures.taken ∙ c.in_default.is) c.self.invariant.listed) c.take.ensures.rest;
  counted = c.self.invariant.counted;
}

pub returns-clause-rows : goal.returns-clause-rows
returns-clause-rows c =
    rw (← c.self.view_is) (c.remove_all.ensures.rows
    ∙ all-leave c.args.client.now c.self.inside.lists c.in-Some.filters c.self.inside.tree
    (sym c.take.ensures.taken ∙ c.in-Some.is) c.self.invariant.listed)

pub returns-clause-keys : goal.returns-clause-keys
returns-clause-keys c = kept-keys c.remove_all.new.tree c.remove_all.ensures.kept

pub returns-in_default-clause-rows : goal.returns-in_default-clause-rows
returns-in_default-clause-rows c =
    rw (← c.self.view_is) (none-had c.args.client.now c.self.inside.lists c.self.inside.tree
    (sym c.take.ensures.taken ∙ c.in_default.is) c.self.invariant.listed)

pub returns-in_default-clause-keys : goal.returns-in_default-clause-keys
returns-in_default-clause-keys c = kept-keys c.self.inside.tree c.self.invariant.listed.kept
