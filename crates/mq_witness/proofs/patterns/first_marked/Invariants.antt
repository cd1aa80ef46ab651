use Rattle.std.proofs.Common.{◌≡◌, true, drop}
use Rattle.std.specs.List.{list_all}
use Rattle.mq_witness.specs.Rows.{all_rows}
use Rattle.mq_witness.specs.Ruled.{has_whole_marks}
use Rattle.mq_witness.proofs.patterns.first_marked.Given as goal

-- where the marks of the lists that are left are whole, those of all are
abbrev pub invariant-loop-place : goal.invariant-loop-place
invariant-loop-place l =
    list_all has_whole_marks (all_rows (drop l.place l.lists)) ≡ true
    → list_all has_whole_marks (all_rows l.lists) ≡ true
