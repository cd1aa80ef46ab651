use Rattle.std.proofs.Common.{◌≡◌, ◌<◌, ℕ, false, List, Some, length, drop, get_or, refl, sym, ◌∙◌}
use Rattle.std.proofs.Common.{drop-cons}
use Rattle.mq_acl.specs.Views.{row_view}
use Rattle.mq_acl.specs.declared.row.Row.{Row}
use Rattle.mq_witness.specs.Limits.{is_short_row, long_line}
use Rattle.mq_witness.proofs.limits.long_line.Goals as goal

-- the first of the rows that are left is the first of all that doesn't keep to the limit
first_long : (rows : List Row) (i : ℕ) (row : Row) → i < length rows → row ≡ get_or rows i row
    → is_short_row (row_view row) ≡ false → long_line rows ≡ long_line (drop i rows)
    → Some row.line ≡ long_line rows
first_long rows i row h is long e = sym (e ∙ rw (drop-cons rows i row, ← is, long) refl)

pub returns-then-not-is_short_row-clause-line : goal.returns-then-not-is_short_row-clause-line
returns-then-not-is_short_row-clause-line c =
    first_long c.args.rows.now c.loop-row.row-index c.row-item.result c.loop-row-test.true
    c.row-item.is (sym c.is_short_row.ensures.short ∙ c.if-not-is_short_row.true)
    c.loop-row.invariant.0
