use Rattle.std.proofs.Common.{◌≡◌, true, drop}
use Rattle.std.specs.List.{list_all}
use Rattle.mq_acl.specs.Views.{row_views}
use Rattle.mq_witness.specs.Limits.{long_line}
use Rattle.mq_witness.specs.Limits.{usable}
use Rattle.mq_witness.proofs.limits.long_line.Given as goal

-- the first of the rows that are left is the first of all, and where they keep to the limit, all do
abbrev pub invariant-loop-row : goal.invariant-loop-row
invariant-loop-row l =
    (long_line l.rows ≡ long_line (drop l.row-index l.rows))
    × (list_all usable (row_views (drop l.row-index l.rows)) ≡ true
    → list_all usable (row_views l.rows) ≡ true)
