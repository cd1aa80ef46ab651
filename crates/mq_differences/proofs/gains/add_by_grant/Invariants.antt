use Rattle.mq_differences.proofs.ReportLemmas.{IsDoneTo}
use Rattle.mq_differences.proofs.gains.add_by_grant.Given as goal

-- of the places of rows that deny, the first are done
abbrev pub invariant-loop-place : goal.invariant-loop-place
invariant-loop-place l = IsDoneTo l.question l.before l.grant l.place-items l.place-index
    l.fn.report.differences.items l.report.differences.items
