use Rattle.std.proofs.Common.{◌≡◌, ◌+◌, ◌++◌, length, drop}
use Rattle.mq_acl.specs.Lines.{lines}
use Rattle.mq_ask_why.specs.Questions.{asked_from, numbered_views, questions_of}
use Rattle.mq_ask_why.proofs.read.read_questions.Given as goal

-- with what the lines that are left say, they are all
abbrev pub invariant-loop-line : goal.invariant-loop-line
invariant-loop-line l = record {
  can_next : (goal.iterator-loop-line).can_next l.line-iterator;
  is_finite : (goal.iterator-loop-line).is_finite l.line-iterator;
  count : l.number ≡ length l.yielded;
  asked : numbered_views l.all.items ++ asked_from (l.number + 1) (drop l.number (lines l.text))
      ≡ questions_of l.text;
}
