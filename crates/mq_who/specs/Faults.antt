-- What is said where it can't be known who may.
use Rattle.std.specs.Prelude.{◌≡◌, ◌<◌, ◌+◌, ℕ, false, List, [], ◌∷◌, ◌++◌, ⊤, Some, Contains, length}
use Rattle.std.specs.List.{list_all}
use Rattle.mq_topic.specs.Levels.{levels}
use Rattle.mq_acl.specs.Lines.{is_pattern_level}
use Rattle.mq_acl.specs.Views.{line_views}
use Rattle.mq_acl.specs.declared.row.Row.{Row}
use Rattle.mq_acl.specs.declared.rules.Rules.{Rules}
use Rattle.mq_acl.specs.declared.rules.Rules.TheVariants.{Mosquitto}
use Rattle.mq_witness.specs.Limits.{has_short_levels, long_line, marked_line}
use Rattle.mq_differences.specs.Steps.{enough_steps}
use Rattle.mq_differences.specs.declared.fault.ComparisonFault.{ComparisonFault}
use Rattle.mq_differences.specs.declared.fault.ComparisonFault.TheVariants as comparison
use Rattle.mq_who.specs.Made.{most_made}
use Rattle.mq_who.specs.declared.fault.WhoFault.{WhoFault}
use Rattle.mq_who.specs.declared.fault.WhoFault.TheVariants as who

-- what is said of the list and the filter is so, and they are given up only where fewer steps are
-- given than are enough
abbrev pub IsWhoFault : Rules → (rows : List Row) → (wanted : List ℕ) → (steps : ℕ) → WhoFault
    → Type 0
IsWhoFault rules rows wanted steps who.Memory = ⊤
IsWhoFault rules rows wanted steps who.Filter = has_short_levels wanted ≡ false
IsWhoFault rules rows wanted steps who.FilterMark =
    (rules ≡ Mosquitto) × (list_all is_pattern_level (levels wanted) ≡ false)
IsWhoFault rules rows wanted steps (who.Line line) = long_line rows ≡ Some line
IsWhoFault rules rows wanted steps (who.Mark line) = marked_line rules rows ≡ Some line
IsWhoFault rules rows wanted steps (who.GaveUp line others) =
    Contains (line_views rows ++ (0 ∷ [])) line
    × (steps < enough_steps (length rows + most_made rules (length rows)))

-- what is said of a comparison of the list with one that was made of the filter
abbrev pub fault_of : ComparisonFault → WhoFault
fault_of comparison.Memory = who.Memory
fault_of (comparison.OldLine line) = who.Line line
fault_of (comparison.NewLine line) = who.Line line
fault_of (comparison.OldMark line) = who.Mark line
fault_of (comparison.NewMark line) = who.FilterMark
fault_of (comparison.GaveUp side line others) = who.GaveUp line others
