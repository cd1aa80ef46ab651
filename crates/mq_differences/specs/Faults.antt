-- What is shown where lists can't be compared.
use Rattle.std.specs.Prelude.{◌≡◌, ◌<◌, ◌+◌, ℕ, zero, suc, List, ⊤, Some, Contains, length}
use Rattle.mq_acl.specs.Views.{line_views}
use Rattle.mq_acl.specs.declared.row.Row.{Row}
use Rattle.mq_acl.specs.declared.rules.Rules.{Rules}
use Rattle.mq_witness.specs.Limits.{long_line, marked_line}
use Rattle.mq_witness.specs.declared.fault.ListFault.{ListFault}
use Rattle.mq_witness.specs.declared.fault.ListFault.TheVariants as lists
use Rattle.mq_differences.specs.declared.fault.ComparisonFault.{ComparisonFault}
use Rattle.mq_differences.specs.declared.fault.ComparisonFault.TheVariants as comparison
use Rattle.mq_differences.specs.Steps.{enough_steps}
use Rattle.mq_differences.specs.declared.fault.Side.{Side}
use Rattle.mq_differences.specs.declared.fault.Side.TheVariants.{Old, New}

abbrev pub rows_of : (old new : List Row) → Side → List Row
rows_of old new Old = old
rows_of old new New = new

-- what is shown of two lists is so, and they are given up only where fewer steps are given than are
-- enough
abbrev pub IsComparisonFault : Rules → (old new : List Row) → (steps : ℕ) → ComparisonFault
    → Type 0
IsComparisonFault rules old new steps comparison.Memory = ⊤
IsComparisonFault rules old new steps (comparison.OldLine line) = long_line old ≡ Some line
IsComparisonFault rules old new steps (comparison.NewLine line) = long_line new ≡ Some line
IsComparisonFault rules old new steps (comparison.OldMark line) =
    marked_line rules old ≡ Some line
IsComparisonFault rules old new steps (comparison.NewMark line) =
    marked_line rules new ≡ Some line
IsComparisonFault rules old new steps (comparison.GaveUp side line others) =
    Contains (line_views (rows_of old new side)) line
    × (steps < enough_steps (length old + length new))

-- what is shown of lists that can't be asked, of which the old one is the first
abbrev pub fault_of : ListFault → ComparisonFault
fault_of lists.Memory = comparison.Memory
fault_of (lists.Line zero line) = comparison.OldLine line
fault_of (lists.Line (suc place) line) = comparison.NewLine line
fault_of (lists.Mark zero line) = comparison.OldMark line
fault_of (lists.Mark (suc place) line) = comparison.NewMark line
