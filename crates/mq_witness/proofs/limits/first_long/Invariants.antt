use Rattle.std.proofs.Common.{◌≡◌, true, All, None, drop}
use Rattle.std.specs.List.{list_all}
use Rattle.mq_witness.specs.Limits.{long_line, usable}
use Rattle.mq_witness.specs.Rows.{all_rows}
use Rattle.mq_witness.proofs.limits.first_long.Given as goal

-- where all that are left keep to the limit, all do
abbrev pub invariant-loop-place : goal.invariant-loop-place
invariant-loop-place l =
    (All (λ list. long_line list.now ≡ None) (drop l.place l.lists)
    → All (λ list. long_line list.now ≡ None) l.lists)
    × (list_all usable (all_rows (drop l.place l.lists)) ≡ true
    → list_all usable (all_rows l.lists) ≡ true)
