use Rattle.std.proofs.Common.{List, false, subst, sym, true}
use Rattle.mq_differences.specs.declared.difference.Difference.{Difference}
use Rattle.mq_expect.specs.Views.{claim_view}
use Rattle.mq_who.specs.Who.{IsListing}
use Rattle.mq_who.proofs.ClaimLemmas.{every_judged, never_judged, one_judged}
use Rattle.mq_who.proofs.judge.answer.Goals as goal

pub returns-in_ok-refused-in-Every-clause-judgement : goal.returns-in_ok-refused-in-Every-clause-judgement
returns-in_ok-refused-in-Every-clause-judgement c =
    every_judged c.args.rules c.args.rows.now (claim_view c.args.claim.now) c.none_of.result
    c.requires.taken c.in-Every.is
    (c.none_of.ensures c.args.rules false c.args.rows.now c.requires.others
    c.in_ok-refused-in-Every.ensures.listing)

pub returns-in_ok-granted-in-Never-clause-judgement : goal.returns-in_ok-granted-in-Never-clause-judgement
returns-in_ok-granted-in-Never-clause-judgement c =
    never_judged c.args.rules c.args.rows.now (claim_view c.args.claim.now) c.none_of-in-Never.result
    c.requires.taken c.in-Never.is
    (c.none_of-in-Never.ensures c.args.rules true c.args.rows.now c.requires.others
    c.in_ok-granted-in-Never.ensures.listing)

pub returns-in_ok-granted-in-AtLeastOne-clause-judgement : goal.returns-in_ok-granted-in-AtLeastOne-clause-judgement
returns-in_ok-granted-in-AtLeastOne-clause-judgement c =
    one_judged c.args.rules c.args.rows.now (claim_view c.args.claim.now) c.at_least_one.result
    c.requires.taken c.in-AtLeastOne.is
    (c.at_least_one.ensures c.args.rules c.args.rows.now c.requires.others
    (subst (λ (all : List Difference).
    IsListing c.args.rules true c.args.rows.now c.args.claim.now.filter all)
    (sym c.deref.ensures.value) c.in_ok-granted-in-AtLeastOne.ensures.listing))
