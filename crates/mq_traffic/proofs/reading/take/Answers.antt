use Rattle.mq_traffic.proofs.reading.take.Goals as goal

pub lines-smaller : goal.lines-smaller
lines-smaller c =
    let shorter = rw c.in-Some.is at c.in_ok-others.ensures.shorter in
    shorter.1
