use Rattle.mq_differences.proofs.ReportLemmas.{AreDoneTo}
use Rattle.mq_differences.proofs.gains.add_gains.Given as goal

-- of the rows that grant, the first are done
abbrev pub invariant-loop-place : goal.invariant-loop-place
invariant-loop-place l = AreDoneTo l.question l.place l.fn.report.differences.items
    l.report.differences.items
