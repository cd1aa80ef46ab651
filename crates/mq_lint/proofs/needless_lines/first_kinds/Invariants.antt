use Rattle.std.proofs.Common.{take}
use Rattle.mq_lint.specs.Kinds.{IsFirst}
use Rattle.mq_lint.specs.Repeats.{AreSeen}
use Rattle.mq_lint.proofs.KindLemmas.{UpTo}
use Rattle.mq_lint.proofs.needless_lines.first_kinds.Given as goal

-- those of the first rows, which were seen
abbrev pub invariant-loop-place : goal.invariant-loop-place
invariant-loop-place l = record {
  kinds : UpTo (IsFirst l.lint.asked.rules l.lint.rows.now) l.lint.rows.now l.place l.kinds.items;
  seen : AreSeen (take l.place l.lint.rows.now) l.seen;
}
