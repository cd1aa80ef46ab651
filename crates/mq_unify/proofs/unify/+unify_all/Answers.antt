use Rattle.std.proofs.lemmas.Result.{IfOk-weaker}
use Rattle.mq_unify.proofs.UnifyLemmas.{all_behind, all_unified, none_of_all}
use Rattle.mq_unify.proofs.unify.+unify_all.Goals as goal

pub returns-in_default-clause-same : goal.returns-in_default-clause-same
returns-in_default-clause-same t c = λ yes.
    none_of_all c.args.bindings.now.bindings.items c.args.some.now c.args.all.now
    c.in_default.ensures.cases

pub returns-clause-same : goal.returns-clause-same
returns-clause-same t c = IfOk-weaker c.unify_all.result _ _
    (λ same h yes. all_unified c.args.some.now _ _ c.in-Some.ensures.cases.0 c.args.all.now
    c.deref.result.now c.deref.ensures.value _ _ _
    (c.in_ok-unify_with.ensures.same c.if-not-branch.false) (h yes)) c.unify_all.ensures.same

pub returns-clause-apart : goal.returns-clause-apart
returns-clause-apart t c = IfOk-weaker c.unify_all.result _ _
    (λ same h no. all_behind c.args.some.now _ _ c.in-Some.ensures.cases.0 c.args.all.now
    c.deref.result.now c.deref.ensures.value _ _
    (c.in_ok-unify_with.ensures.same c.if-not-branch.false) (h no)) c.unify_all.ensures.apart
