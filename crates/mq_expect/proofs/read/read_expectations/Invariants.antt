use Rattle.std.proofs.Common.{◌≡◌, ◌+◌, ◌++◌, length, drop}
use Rattle.mq_acl.specs.Lines.{lines}
use Rattle.mq_expect.specs.Files.{expectations_of, numbered_views, said_from}
use Rattle.mq_expect.proofs.read.read_expectations.Given as goal

-- with what the lines that are left say, they are all
abbrev pub invariant-loop-line : goal.invariant-loop-line
invariant-loop-line l = record {
  can_next : (goal.iterator-loop-line).can_next l.line-iterator;
  is_finite : (goal.iterator-loop-line).is_finite l.line-iterator;
  count : l.number ≡ length l.yielded;
  said : numbered_views l.all.items ++ said_from (l.number + 1) (drop l.number (lines l.text))
      ≡ expectations_of l.text;
}
