use Rattle.mq_through.proofs.IdleLemmas.{idle_alike, same_alike}
use Rattle.mq_through.proofs.made.is_alike.Goals as goal

pub returns-then-is_same_row : goal.returns-then-is_same_row
returns-then-is_same_row c = λ yes.
    same_alike c.args.region.now c.args.row.now c.args.other.now
    (c.is_same_row.ensures.line c.if-is_same_row.true)
    (c.is_same_row.ensures.view c.if-is_same_row.true)

pub returns : goal.returns
returns c = λ yes.
    idle_alike c.args.region.now c.args.row.now c.args.other.now
    (c.in_ok-is_idle.ensures c.if-not-branch.false) (c.in_ok-idle.ensures yes)
