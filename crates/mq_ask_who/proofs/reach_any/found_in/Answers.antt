use Rattle.std.proofs.Common.{◌∙◌, ap, inl, subst}
use Rattle.std.specs.Option.{option_copied}
use Rattle.mq_expect.specs.Expectations.{Claim}
use Rattle.mq_who.specs.Claims.{IsJudgement}
use Rattle.mq_who.specs.Faults.{IsWhoFault}
use Rattle.mq_who.specs.declared.judge.Judgement.{Judgement}
use Rattle.mq_ask_who.specs.ReachAny.{claim_about}
use Rattle.mq_ask_who.proofs.reach_any.found_in.Goals as goal

pub returns-in-Ok-Fails-clause-ok : goal.returns-in-Ok-Fails-clause-ok
returns-in-Ok-Fails-clause-ok c =
    let user = option_copied c.args.about.0 in
    let claimed = claim_about user c.args.about.1.now in
    rw c.in-Ok-Fails.field-0-is
    (subst (λ (j : Judgement). IsJudgement c.args.rules c.args.rows.now claimed j)
    c.in-Ok-Fails.field-0-is
    (subst (λ (k : Claim). IsJudgement c.args.rules c.args.rows.now k c.in-Ok-Fails.field-0)
    (c.claim_about-claim.ensures ∙ ap (claim_about user) c.in_ok-filter.ensures.ok)
    c.in-Ok-Fails.ensures.judgement))

pub returns-clause-err : goal.returns-clause-err
returns-clause-err c = inl (c.who_failure.ensures c.args.steps
    (subst (λ wanted. IsWhoFault c.args.rules c.args.rows.now wanted c.args.steps c.in-Err.fault)
    (ap (λ (k : Claim). k.topics) (c.claim_about-claim.ensures
    ∙ ap (claim_about (option_copied c.args.about.0)) c.in_ok-filter.ensures.ok))
    c.in-Err.ensures.fault))
