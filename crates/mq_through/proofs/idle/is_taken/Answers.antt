use Rattle.mq_through.proofs.IdleLemmas.{taken_at}
use Rattle.mq_through.proofs.idle.is_taken.Goals as goal

pub returns-then-branch : goal.returns-then-branch
returns-then-branch c = λ yes n h g.
    taken_at c.args.taken.now c.loop-other.other-index c.other-item.result n c.loop-other-test.true
    c.other-item.is (c.in_ok-is_within.ensures c.if-branch.true n h g)
