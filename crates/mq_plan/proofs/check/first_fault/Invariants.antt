use Rattle.std.proofs.Common.{◌≡◌, ◌+◌, length}
use Rattle.std.specs.Prelude.{slice_get}
use Rattle.std.specs.List.{enumerate_from, filter_map}
use Rattle.mq_acl.specs.Lines.{lines}
use Rattle.mq_acl.specs.Views.{lines_left}
use Rattle.mq_plan.specs.Rules.{fault_at, faults_in}
use Rattle.mq_plan.proofs.check.first_fault.Given as goal

abbrev pub invariant-loop-rest : goal.invariant-loop-rest
invariant-loop-rest l = record {
  counted : l.number + length (lines_left l.rest) ≡ length (lines l.fn.text);
  first : slice_get (filter_map fault_at (enumerate_from (l.number + 1) (lines_left l.rest))) 0
      ≡ slice_get (faults_in (lines l.fn.text)) 0;
}

abbrev pub decreases-loop-rest : goal.decreases-loop-rest
decreases-loop-rest l = length (lines_left l.rest)
