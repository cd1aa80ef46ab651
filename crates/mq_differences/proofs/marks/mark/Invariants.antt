use Rattle.mq_differences.proofs.MarkLemmas.{AreMarkedTo}
use Rattle.mq_differences.proofs.marks.mark.Given as goal

-- the first are marked
abbrev pub invariant-loop-place : goal.invariant-loop-place
invariant-loop-place l = AreMarkedTo l.rows l.others l.place l.all.items
