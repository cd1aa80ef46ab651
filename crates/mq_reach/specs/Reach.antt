-- What a filter reaches of what a client may read.
use Rattle.std.specs.Prelude.{◌≡◌, ℕ, Bool, List, true, false, ◌&&◌, ◌||◌, not, Option, Some, IsTrue, ⊤}
use Rattle.std.specs.List.{list_all}
use Rattle.mq_topic.specs.Levels.{levels}
use Rattle.mq_topic.specs.Matching.{matches}
use Rattle.mq_topic.specs.Texts.{is_filter, is_name}
use Rattle.mq_acl.specs.AccessLists.{AccessList, allow_by}
use Rattle.mq_acl.specs.declared.rules.Rules.{Rules}
use Rattle.mq_acl.specs.declared.rules.Rules.TheVariants.{Own, Mosquitto}
use Rattle.mq_acl.specs.Mosquitto.{filter_for, is_asked, known_user}
use Rattle.mq_acl.specs.Rows.{AclRow}
use Rattle.mq_acl.specs.RowsByOwner.{is_everyones}
use Rattle.mq_acl.specs.declared.access.Direction.TheVariants.{Reading}
use Rattle.mq_cover.specs.Remainders.{mark_passes}
use Rattle.mq_acl.specs.declared.row.Row.{Row}
use Rattle.mq_witness.specs.Limits.{has_short_levels, is_short, long_line}
use Rattle.mq_witness.specs.declared.fault.LimitFault.{LimitFault}
use Rattle.mq_witness.specs.declared.fault.LimitFault.TheVariants as limit
use Rattle.mq_witness.specs.declared.fault.ListFault.{ListFault}
use Rattle.mq_witness.specs.declared.fault.ListFault.TheVariants as lists
use Rattle.mq_reach.specs.declared.fault.ReachFault.{ReachFault}
use Rattle.mq_reach.specs.declared.fault.ReachFault.TheVariants as reach

-- the list with these rows, which decide by these rules
abbrev pub list_by : Rules → List AclRow → AccessList
list_by rules rows = record { rules = rules; rows = rows }

-- the client may read no topic that the filter matches (MQTT 5.0, section 4.7)
abbrev pub ReadsNone : AccessList → List ℕ → Option (List ℕ) → List ℕ → Type 0
ReadsNone list client user filter =
    (name : List ℕ) → IsTrue (is_name name) → matches (levels filter) (levels name) ≡ true
    → allow_by list.rules list.rows client user name Reading ≡ false

-- it may read this one, which the filter matches
pub record Reads (list : AccessList) (client : List ℕ) (user : Option (List ℕ))
    (filter name : List ℕ) : Type 0 where
  pub matched : matches (levels filter) (levels name) ≡ true
  pub may_read : allow_by list.rules list.rows client user name Reading ≡ true

-- ---- what is shown of what is too long
abbrev pub is_short_user : Option (List ℕ) → Bool
is_short_user user = mark_passes is_short user

-- a `pattern` row that is asked about the client is a topic filter with the client's texts in the place of its marks, and no
-- level of it is longer than 300 bytes then
abbrev pub is_fit : List ℕ → Option (List ℕ) → AclRow → Bool
is_fit client user row = not (is_everyones row.who && is_asked client user row.filter)
    || (is_filter (filter_for client user row) && has_short_levels (filter_for client user row))

-- by mosquitto's rules so is each row
abbrev pub can_fill : Rules → List AclRow → List ℕ → Option (List ℕ) → Bool
can_fill Own rows client user = true
can_fill Mosquitto rows client user = list_all (is_fit client (known_user user)) rows

-- what is shown of a client id, a user name and a filter is so
abbrev pub IsReachFault : AccessList → (client : List ℕ) → (user : Option (List ℕ))
    → (filter : List ℕ) → ReachFault → Type 0
IsReachFault list client user filter reach.Memory = ⊤
IsReachFault list client user filter reach.Client = is_short client ≡ false
IsReachFault list client user filter reach.User = is_short_user user ≡ false
IsReachFault list client user filter reach.Filter = has_short_levels filter ≡ false
IsReachFault list client user filter reach.Pattern =
    can_fill list.rules list.rows client user ≡ false

-- what is shown of the limits of a question about one client
abbrev pub reach_fault : LimitFault → ReachFault
reach_fault limit.Memory = reach.Memory
reach_fault limit.Client = reach.Client
reach_fault limit.User = reach.User
reach_fault limit.Row = reach.Filter

-- what is shown of one list is so
abbrev pub IsListFault : List Row → ListFault → Type 0
IsListFault rows lists.Memory = ⊤
IsListFault rows (lists.Line place line) = (place ≡ 0) × (long_line rows ≡ Some line)
IsListFault rows (lists.Mark place line) = ⊥
