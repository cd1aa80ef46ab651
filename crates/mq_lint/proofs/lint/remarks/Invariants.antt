use Rattle.std.proofs.Common.{◌≡◌, ◌+◌, ◌++◌, length, drop}
use Rattle.mq_acl.specs.Lines.{lines}
use Rattle.mq_lint.specs.Remarks.{remarks_from, remarks_of}
use Rattle.mq_lint.proofs.lint.remarks.Given as goal

-- with the remarks on the lines that are left, they are all
abbrev pub invariant-loop-line : goal.invariant-loop-line
invariant-loop-line l = record {
  can_next : (goal.iterator-loop-line).can_next l.line-iterator;
  is_finite : (goal.iterator-loop-line).is_finite l.line-iterator;
  count : l.number ≡ length l.yielded;
  shown : l.remarks.items ++ remarks_from l.rules (l.number + 1) (drop l.number (lines l.text))
      ≡ remarks_of l.rules l.text;
}
