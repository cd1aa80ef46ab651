use Rattle.std.proofs.lemmas.Result.{IfOk-weaker}
use Rattle.mq_unify.proofs.UnifyLemmas.{free_first, text_first}
use Rattle.mq_unify.proofs.binding.Bindings.equate.Goals as goal

pub returns-in-Known-clause-same : goal.returns-in-Known-clause-same
returns-in-Known-clause-same c = IfOk-weaker c.equate_text.result _ _
    (λ same h yes. text_first c.args.self.now.bindings.items c.equate_text.new.self.bindings.items
    c.in-Known.text c.args.one c.args.other c.in-Known.is (h yes)) c.equate_text.ensures.same

pub returns-in_ok-bind_free-in-Free-clause-same : goal.returns-in_ok-bind_free-in-Free-clause-same
returns-in_ok-bind_free-in-Free-clause-same c = λ yes.
    free_first c.args.self.now.bindings.items c.bind_free.new.self.bindings.items
    c.in-Free.number c.args.one c.args.other c.in-Free.is c.in_ok-bind_free-in-Free.ensures
