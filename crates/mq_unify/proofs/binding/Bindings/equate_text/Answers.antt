use Rattle.mq_unify.specs.declared.binding.Level.TheVariants.{Known}
use Rattle.mq_unify.proofs.UnifyLemmas.{free_second, known_bound}
use Rattle.mq_unify.proofs.binding.Bindings.equate_text.Goals as goal

pub bind_free-requires-clause-level : goal.bind_free-requires-clause-level
bind_free-requires-clause-level c = known_bound c.args.self.now.bindings.items c.args.text

pub returns-in_ok-bind_free-in-Free-clause-same : goal.returns-in_ok-bind_free-in-Free-clause-same
returns-in_ok-bind_free-in-Free-clause-same c = λ yes.
    free_second c.args.self.now.bindings.items c.bind_free.new.self.bindings.items
    c.in-Free.number (Known c.args.text) c.args.other c.in-Free.is c.in_ok-bind_free-in-Free.ensures
