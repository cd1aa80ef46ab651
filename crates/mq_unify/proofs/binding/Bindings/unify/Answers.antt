use Rattle.std.proofs.Common.{◌∙◌, sym}
use Rattle.std.proofs.lemmas.Result.{IfOk-weaker}
use Rattle.mq_unify.proofs.UnifyLemmas.{agree_is, term_bound, terms_unified}
use Rattle.mq_unify.proofs.binding.Bindings.unify.Goals as goal

pub equate-requires-clause-one : goal.equate-requires-clause-one
equate-requires-clause-one c = term_bound c.args.self.now.bindings.items c.args.one _
    c.args.self.now.normal (sym c.in-Some-Some.ensures)

pub equate-requires-clause-other : goal.equate-requires-clause-other
equate-requires-clause-other c = term_bound c.args.self.now.bindings.items c.args.other _
    c.args.self.now.normal (sym c.in-Some-Some.ensures')

pub returns-clause-same : goal.returns-clause-same
returns-clause-same c = IfOk-weaker c.equate.result _ _
    (λ same h yes. terms_unified c.args.self.now.bindings.items c.equate.new.self.bindings.items
    c.args.one c.args.other c.in-Some-Some.one c.in-Some-Some.other
    (sym c.in-Some-Some.ensures) (sym c.in-Some-Some.ensures') (h yes)) c.equate.ensures.same

pub returns-clause-apart : goal.returns-clause-apart
returns-clause-apart c = IfOk-weaker c.equate.result _ _
    (λ same h no values holds. agree_is c.args.self.now.bindings.items values
    c.args.one c.args.other c.in-Some-Some.one c.in-Some-Some.other holds
    (sym c.in-Some-Some.ensures) (sym c.in-Some-Some.ensures') ∙ h no values) c.equate.ensures.apart
