use Rattle.std.proofs.Common.{is_ok}
use Rattle.mq_unify.proofs.BindingLemmas.{normal_either, unified_push}
use Rattle.mq_unify.proofs.binding.Bindings.bind.Goals as goal

pub invariant_of-self : goal.invariant_of-self
invariant_of-self c = record {
  normal = normal_either c.args.self.now.bindings.items c.push.new.self.items
      (record { number = c.args.number; level = c.args.level }) (is_ok c.push.result)
      c.args.self.now.normal c.requires.normal c.push.ensures.items;
}

pub returns : goal.returns
returns c = unified_push c.args.self.now.bindings.items c.push.new.self.items
    (record { number = c.args.number; level = c.args.level }) c.requires.free
    c.in_ok-push.ensures.items
