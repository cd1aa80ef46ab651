-- What is shown where the needless lines of a list aren't.
use Rattle.std.specs.Prelude.{◌≡◌, ◌<◌, ℕ, Bool, true, List, ⊤, Some, Contains, length}
use Rattle.mq_acl.specs.Views.{line_views}
use Rattle.mq_acl.specs.declared.row.Row.{Row}
use Rattle.mq_acl.specs.declared.rules.Rules.{Rules}
use Rattle.mq_witness.specs.Limits.{long_line, marked_line}
use Rattle.mq_differences.specs.Steps.{enough_steps}
use Rattle.mq_lint.specs.declared.fault.NeedlessFault.{NeedlessFault}
use Rattle.mq_lint.specs.declared.fault.NeedlessFault.TheVariants.{Memory, Line, Mark, GaveUp}

-- what is shown of a list is so, and it is given up only where fewer steps are given than are
-- enough
abbrev pub IsNeedlessFault : Rules → List Row → (steps : ℕ) → NeedlessFault → Type 0
IsNeedlessFault rules rows steps Memory = ⊤
IsNeedlessFault rules rows steps (Line line) = long_line rows ≡ Some line
IsNeedlessFault rules rows steps (Mark line) = marked_line rules rows ≡ Some line
IsNeedlessFault rules rows steps (GaveUp line others) =
    Contains (line_views rows) line × (steps < enough_steps (length rows))

-- there was no memory, or the steps, which are limited, don't suffice for the row with this line
abbrev pub IsStop : (line : ℕ) → (limited : Bool) → NeedlessFault → Type 0
IsStop line limited Memory = ⊤
IsStop line limited (Line other) = ⊥
IsStop line limited (Mark other) = ⊥
IsStop line limited (GaveUp other others) = (other ≡ line) × (limited ≡ true)

-- the same for a row of the list
abbrev pub IsStopIn : List Row → (limited : Bool) → NeedlessFault → Type 0
IsStopIn rows limited Memory = ⊤
IsStopIn rows limited (Line other) = ⊥
IsStopIn rows limited (Mark other) = ⊥
IsStopIn rows limited (GaveUp line others) =
    Contains (line_views rows) line × (limited ≡ true)
