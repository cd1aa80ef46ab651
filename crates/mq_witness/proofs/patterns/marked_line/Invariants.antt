use Rattle.std.proofs.Common.{◌≡◌, true, drop}
use Rattle.std.specs.List.{list_all}
use Rattle.mq_acl.specs.Views.{row_views}
use Rattle.mq_acl.specs.declared.rules.Rules.TheVariants.{Mosquitto}
use Rattle.mq_witness.specs.Limits.{marked_line}
use Rattle.mq_witness.specs.Ruled.{has_whole_marks}
use Rattle.mq_witness.proofs.patterns.marked_line.Given as goal

-- the first such row of those that are left is the first of all, and where they have none, all have none
abbrev pub invariant-loop-row : goal.invariant-loop-row
invariant-loop-row l =
    (marked_line Mosquitto l.rows ≡ marked_line Mosquitto (drop l.row-index l.rows))
    × (list_all has_whole_marks (row_views (drop l.row-index l.rows)) ≡ true
    → list_all has_whole_marks (row_views l.rows) ≡ true)
