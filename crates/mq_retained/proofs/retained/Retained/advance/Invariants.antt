use Rattle.std.proofs.Common.{◌≡◌, ◌+◌, length, not}
use Rattle.std.specs.List.{filter}
use Rattle.mq_retained.specs.Deadlines.{is_due}
use Rattle.mq_retained.specs.Stored.{retained_in, IsSound}
use Rattle.mq_retained.proofs.retained.Retained.advance.Given as goal

abbrev pub invariant-loop-topic : goal.invariant-loop-topic
invariant-loop-topic l = record {
  sound : IsSound l.self-inside.tree l.self-inside.deadlines;
  rest : filter (λ kept. not (is_due l.moment kept)) (retained_in l.self-inside.tree)
      ≡ filter (λ kept. not (is_due l.moment kept)) (retained_in l.initial.self-inside.tree);
  count : l.steps + length (filter (is_due l.moment) (retained_in l.self-inside.tree))
      ≡ l.initial.steps
      + length (filter (is_due l.moment) (retained_in l.initial.self-inside.tree));
}

-- each turn takes a message out
abbrev pub decreases-loop-topic : goal.decreases-loop-topic
decreases-loop-topic l = length l.self-inside.tree
