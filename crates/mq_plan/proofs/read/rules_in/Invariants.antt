use Rattle.std.proofs.Common.{◌≡◌, ◌+◌, ◌++◌, [], length}
use Rattle.std.specs.List.{enumerate_from, filter_map}
use Rattle.mq_acl.specs.Lines.{lines}
use Rattle.mq_acl.specs.Views.{lines_left}
use Rattle.mq_plan.specs.Rules.{fault_at, rule_at, rules_in}
use Rattle.mq_plan.proofs.read.rules_in.Given as goal

abbrev pub invariant-loop-rest : goal.invariant-loop-rest
invariant-loop-rest l = record {
  counted : l.number + length (lines_left l.rest) ≡ length (lines l.fn.text);
  faultless : filter_map fault_at (enumerate_from (l.number + 1) (lines_left l.rest)) ≡ [];
  found : l.rules.items ++ filter_map rule_at (enumerate_from (l.number + 1) (lines_left l.rest))
      ≡ rules_in (lines l.fn.text);
}

abbrev pub decreases-loop-rest : goal.decreases-loop-rest
decreases-loop-rest l = length (lines_left l.rest)
