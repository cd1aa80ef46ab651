use Rattle.std.proofs.Common.{sym, ◌∙◌}
use Rattle.mq_acl.specs.declared.access.Direction.TheVariants.{Reading, Writing}
use Rattle.mq_expect.specs.Views.{claim_view}
use Rattle.mq_who.proofs.ClaimLemmas.{in_each, missed}
use Rattle.mq_who.proofs.judge.at_least_one.Goals as goal

pub returns-then-misses : goal.returns-then-misses
returns-then-misses c rules rows o l =
    missed rules rows (claim_view c.args.claim.now) c.args.others.now c.args.granted.now Reading o l
    (sym c.misses.ensures ∙ c.if-misses.true)

pub returns-then-misses-2 : goal.returns-then-misses-2
returns-then-misses-2 c rules rows o l =
    missed rules rows (claim_view c.args.claim.now) c.args.others.now c.args.granted.now Writing o l
    (sym c.misses-2.ensures ∙ c.if-misses-2.true)

pub returns : goal.returns
returns c rules rows o l =
    in_each rules rows (claim_view c.args.claim.now) c.args.others.now c.args.granted.now o l
    (sym c.misses.ensures ∙ c.if-misses.false) (sym c.misses-2.ensures ∙ c.if-misses-2.false)
