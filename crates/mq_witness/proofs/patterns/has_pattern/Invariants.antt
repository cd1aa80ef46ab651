use Rattle.std.proofs.Common.{◌≡◌, drop}
use Rattle.mq_acl.specs.Views.{row_views}
use Rattle.mq_witness.specs.Ruled.{has_patterns}
use Rattle.mq_witness.proofs.patterns.has_pattern.Given as goal

-- of the rows that are left one is for all clients just where one of all is
abbrev pub invariant-loop-row : goal.invariant-loop-row
invariant-loop-row l =
    has_patterns (row_views l.rows) ≡ has_patterns (row_views (drop l.row-index l.rows))
