use Rattle.std.proofs.Common.{◌≡◌, ◌++◌, take}
use Rattle.mq_witness.specs.Rows.{lent_rows}
use Rattle.mq_differences.specs.Marks.{views_of}
use Rattle.mq_differences.proofs.judges.add_rows.Given as goal

-- the first are added
abbrev pub invariant-loop-m : goal.invariant-loop-m
invariant-loop-m l = lent_rows l.rows.items
    ≡ lent_rows l.fn.rows.items ++ views_of (take l.m-index l.marked)
