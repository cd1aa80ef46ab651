use Rattle.std.proofs.Common.{take}
use Rattle.mq_cover.specs.Remainders.{marks_view}
use Rattle.mq_cover.proofs.LeftLemmas.{IsLeftOfEach}
use Rattle.mq_cover.proofs.left.left_of_each.Given as goal

abbrev pub invariant-loop-remainder : goal.invariant-loop-remainder
invariant-loop-remainder l = IsLeftOfEach (take l.remainder-index l.remainders) l.remainders
    (marks_view l.marks) l.level l.left.items
