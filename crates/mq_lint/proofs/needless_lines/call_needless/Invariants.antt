use Rattle.std.proofs.Common.{◌≡◌, ◌≤◌, length}
use Rattle.mq_witness.specs.Rows.{lent_rows}
use Rattle.mq_lint.specs.Kinds.{CalledFrom}
use Rattle.mq_lint.proofs.needless_lines.call_needless.Given as goal

-- of the rows from the place on it is known which are called needless
abbrev pub invariant-loop-place : goal.invariant-loop-place
invariant-loop-place l = record {
  rows : l.called.rows.now ≡ l.lint.rows.now;
  low : l.place ≤ length l.lint.rows.now;
  from : CalledFrom l.lint.asked.rules l.lint.rows.now l.place l.kinds.items
      (lent_rows l.called.called.items);
}

abbrev pub decreases-loop-place : goal.decreases-loop-place
decreases-loop-place l = l.place
