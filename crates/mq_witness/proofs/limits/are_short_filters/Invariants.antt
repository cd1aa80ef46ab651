use Rattle.std.proofs.Common.{◌≡◌, true, drop}
use Rattle.std.specs.List.{list_all}
use Rattle.mq_witness.specs.Limits.{has_short_levels, is_short_level}
use Rattle.mq_witness.specs.Roots.{rows_fit}
use Rattle.mq_witness.specs.Rows.{lent_rows}
use Rattle.mq_witness.proofs.limits.are_short_filters.Given as goal

-- where the rows that are left keep to the limit, all do, and only there
abbrev pub invariant-loop-row : goal.invariant-loop-row
invariant-loop-row l =
    (list_all (λ row. has_short_levels row.filter) (lent_rows l.rows)
    ≡ list_all (λ row. has_short_levels row.filter) (lent_rows (drop l.row-index l.rows)))
    × (rows_fit is_short_level (lent_rows (drop l.row-index l.rows)) ≡ true
    → rows_fit is_short_level (lent_rows l.rows) ≡ true)
