use Rattle.std.proofs.lemmas.Result.{IfOk-weaker}
use Rattle.mq_unify.proofs.UnifyLemmas.{two_unified}
use Rattle.mq_unify.proofs.unify.+unify_two.Goals as goal

pub returns-clause-same : goal.returns-clause-same
returns-clause-same t c = IfOk-weaker c.unify_two.result _ _
    (λ same h yes. two_unified c.args.one.now c.args.other.now _ _ _ _
    c.in-Some.ensures.cases.0 c.in-Some-split_first.ensures.cases.0 _ _ _
    (c.in_ok-unify.ensures.same c.if-not-branch.false) (h yes)) c.unify_two.ensures.same
