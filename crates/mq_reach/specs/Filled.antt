-- Rows as they are for one client by mosquitto's rules, and what some rows let it read.
use Rattle.std.specs.Prelude.{◌≡◌, ℕ, Bool, true, false, List, ◌&&◌, not, Option, ⊤}
use Rattle.std.specs.List.{list_all, list_any}
use Rattle.mq_topic.specs.Texts.{is_name}
use Rattle.mq_acl.specs.Access.{concerns}
use Rattle.mq_acl.specs.Mosquitto.{filter_for, is_asked}
use Rattle.mq_acl.specs.Refused.{refuses}
use Rattle.mq_acl.specs.Rows.{AclRow, who_of}
use Rattle.mq_acl.specs.RowsByOwner.{is_everyones}
use Rattle.mq_acl.specs.declared.access.Direction.TheVariants.{Reading}
use Rattle.mq_acl.specs.declared.rules.Rules.{Rules}
use Rattle.mq_cover.specs.Remainders.{mark_passes}
use Rattle.mq_witness.specs.Limits.{has_short_levels, is_short}
use Rattle.mq_reach.specs.Reach.{is_fit}
use Rattle.mq_reach.specs.declared.fault.ReachFault.{ReachFault}
use Rattle.mq_reach.specs.declared.fault.ReachFault.TheVariants as reach

-- ---- rows for one client
-- a `pattern` row that isn't asked about the client
abbrev pub is_passed_over : List ℕ → Option (List ℕ) → AclRow → Bool
is_passed_over client user row =
    is_everyones row.who && not (is_asked client user row.filter)

-- the row for clients of this user name alone, or without one, that covers what the row does for this client
abbrev pub filled_row : List ℕ → Option (List ℕ) → AclRow → AclRow
filled_row client user row =
    record { who = who_of user; access = row.access; filter = filter_for client user row }

-- the row is such, and keeps to the limit
pub record IsFilled (user : Option (List ℕ)) (row : AclRow) : Type 0 where
  pub who : row.who ≡ who_of user
  pub short : has_short_levels row.filter ≡ true

-- ---- what some rows let a client read
-- one of those that grant passes the test, and none of those that deny does
abbrev pub passes : (AclRow → Bool) → (denying granting : List AclRow) → Bool
passes test denying granting = not (list_any test denying) && list_any test granting

-- of the topics that clients may read by these rules, they let it read none that the row concerns
abbrev pub PassesNone : Rules → List ℕ → Option (List ℕ) → AclRow
    → (test : List ℕ → AclRow → Bool) → (denying granting : List AclRow) → Type 0
PassesNone rules client user row test denying granting =
    (name : List ℕ) → is_name name ≡ true → refuses rules Reading name ≡ false
    → concerns client user name row ≡ true → passes (test name) denying granting ≡ false

-- they let it read this one of them
pub record IsPassed (rules : Rules) (client : List ℕ) (user : Option (List ℕ)) (row : AclRow)
    (test : List ℕ → AclRow → Bool) (denying granting : List AclRow) (name : List ℕ) : Type 0 where
  pub valid : is_name name ≡ true
  pub taken : refuses rules Reading name ≡ false
  pub concerned : concerns client user name row ≡ true
  pub passed : passes (test name) denying granting ≡ true

-- ---- the limit
-- what is shown of rows that are filled, which are among these, is so
abbrev pub IsFillFault : List ℕ → Option (List ℕ) → List AclRow → ReachFault → Type 0
IsFillFault client user rows reach.Memory = ⊤
IsFillFault client user rows reach.Client = ⊥
IsFillFault client user rows reach.User = ⊥
IsFillFault client user rows reach.Filter = ⊥
IsFillFault client user rows reach.Pattern = list_all (is_fit client user) rows ≡ false

-- and what is shown of what is asked of them
abbrev pub IsPatternFault : List ℕ → Option (List ℕ) → (filter : List ℕ) → List AclRow
    → ReachFault → Type 0
IsPatternFault client user filter rows reach.Memory = ⊤
IsPatternFault client user filter rows reach.Client = is_short client ≡ false
IsPatternFault client user filter rows reach.User = mark_passes is_short user ≡ false
IsPatternFault client user filter rows reach.Filter = has_short_levels filter ≡ false
IsPatternFault client user filter rows reach.Pattern = list_all (is_fit client user) rows ≡ false
