-- What decides whether a client may read or write a topic.
use Rattle.std.specs.Prelude.{ℕ, Bool, true, false, List, ◌==◌, ◌&&◌, Option, Some, None, find}
use Rattle.std.specs.Prelude.{if◌then◌else◌}
use Rattle.mq_acl.specs.Access.{grants, is_deny}
use Rattle.mq_acl.specs.AccessLists.{concerns_by, user_by}
use Rattle.mq_acl.specs.Refused.{refuses}
use Rattle.mq_acl.specs.Rows.{AclRow}
use Rattle.mq_acl.specs.Views.{row_view}
use Rattle.mq_acl.specs.declared.access.Direction.{Direction}
use Rattle.mq_acl.specs.declared.row.Row.{Row}
use Rattle.mq_acl.specs.declared.rules.Rules.{Rules}
use Rattle.mq_differences.specs.Ranks.{is_judge, judges, rank}
use Rattle.mq_differences.specs.declared.reason.Reason.{Reason}
use Rattle.mq_differences.specs.declared.reason.Reason.TheVariants.{Broker, Deny, Grant, NoGrant}

-- the row is of this rank, may decide, and concerns the topic
abbrev pub decides_at : Rules → Direction → ℕ → List ℕ → Option (List ℕ) → List ℕ → AclRow → Bool
decides_at rules direction place client user topic row =
    (is_judge direction row && (rank rules row == place))
    && concerns_by rules client (user_by rules user) topic row

-- the first of the rows that may decide and concern the topic
abbrev pub decider : Rules → List Row → List ℕ → Option (List ℕ) → List ℕ → Direction → Option Row
decider rules rows client user topic direction =
    find (λ row. concerns_by rules client (user_by rules user) topic (row_view row))
    (judges rules direction rows)

-- the first of them that grants it
abbrev pub first_grant : Rules → List Row → List ℕ → Option (List ℕ) → List ℕ → Direction
    → Option Row
first_grant rules rows client user topic direction =
    find (λ row. concerns_by rules client (user_by rules user) topic (row_view row)
    && grants direction (row_view row).access) (judges rules direction rows)

-- the line that decides, if one does
abbrev pub deciding_line : Reason → Option ℕ
deciding_line (Deny line) = Some line
deciding_line (Grant line) = Some line
deciding_line NoGrant = None
deciding_line Broker = None

-- a row that denies, or one that grants
abbrev pub reason_by : Option Row → Reason
reason_by None = NoGrant
reason_by (Some row) =
    if is_deny (row_view row).access then Deny row.line else Grant row.line

abbrev pub reason_of : Rules → List Row → List ℕ → Option (List ℕ) → List ℕ → Direction → Reason
reason_of rules rows client user topic direction = if refuses rules direction topic then Broker
    else reason_by (decider rules rows client user topic direction)

-- the client may
abbrev pub is_grant : Reason → Bool
is_grant (Deny line) = false
is_grant (Grant line) = true
is_grant NoGrant = false
is_grant Broker = false
