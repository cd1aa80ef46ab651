use Rattle.std.proofs.Common.{◌≡◌, take}
use Rattle.std.specs.Prelude.{map}
use Rattle.mq_witness.specs.Rows.{lent_rows}
use Rattle.mq_lint.specs.Needless.{is_needless}
use Rattle.mq_lint.proofs.BesideLemmas.{IsMadeOf}
use Rattle.mq_lint.proofs.KindLemmas.{UpTo}
use Rattle.mq_lint.proofs.needless_lines.with_makers.Given as goal

-- those of the first rows, with what makes them needless
abbrev pub invariant-loop-place : goal.invariant-loop-place
invariant-loop-place l = record {
  made : UpTo (IsMadeOf l.lint.asked.rules l.lint.rows.now l.kinds
      (lent_rows l.called.called.items)) l.lint.rows.now l.place l.all.items;
  flags : map is_needless l.all.items ≡ map is_needless (take l.place l.kinds);
}
