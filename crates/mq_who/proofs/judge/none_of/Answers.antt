use Rattle.std.proofs.Common.{sym}
use Rattle.mq_expect.specs.Views.{claim_view}
use Rattle.mq_who.proofs.ClaimLemmas.{against, kept}
use Rattle.mq_who.proofs.judge.none_of.Goals as goal

pub returns-in-Some : goal.returns-in-Some
returns-in-Some c rules allows rows o l =
    against rules allows rows (claim_view c.args.claim.now) c.args.others.now c.args.listed.items
    c.in-Some.d o l (sym c.in-Some.ensures)

pub returns-in-None : goal.returns-in-None
returns-in-None c rules allows rows o l =
    kept rules allows rows (claim_view c.args.claim.now) c.args.others.now c.args.listed.items o l
    (sym c.in-None.ensures)
