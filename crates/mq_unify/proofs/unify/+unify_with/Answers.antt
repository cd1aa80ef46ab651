use Rattle.std.proofs.lemmas.Result.{IfOk-weaker}
use Rattle.mq_unify.proofs.UnifyLemmas.{no_terms, with_behind, with_unified}
use Rattle.mq_unify.proofs.unify.+unify_with.Goals as goal

pub returns-in_default-clause-same : goal.returns-in_default-clause-same
returns-in_default-clause-same t c = λ yes.
    no_terms c.args.bindings.now.bindings.items c.args.all.now c.args.terms.now
    c.in_default.ensures.cases

pub returns-clause-same : goal.returns-clause-same
returns-clause-same t c = IfOk-weaker c.unify_with.result _ _
    (λ same h yes. with_unified c.args.all.now _ _ c.in-Some.ensures.cases.0 c.args.terms.now
    c.deref.result.now c.deref.ensures.value _ _ _
    (c.in_ok-unify_two.ensures.same c.if-not-branch.false) (h yes)) c.unify_with.ensures.same

pub returns-clause-apart : goal.returns-clause-apart
returns-clause-apart t c = IfOk-weaker c.unify_with.result _ _
    (λ same h no. with_behind c.args.all.now _ _ c.in-Some.ensures.cases.0 c.args.terms.now
    c.deref.result.now c.deref.ensures.value _ _
    (c.in_ok-unify_two.ensures.same c.if-not-branch.false) (h no)) c.unify_with.ensures.apart
