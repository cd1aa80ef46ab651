-- Which rows decide, and in which order.
use Rattle.std.specs.Prelude.{ℕ, Bool, true, false, List, ◌++◌, ◌==◌, ◌&&◌, ◌||◌}
use Rattle.std.specs.List.{filter}
use Rattle.mq_acl.specs.Access.{grants, is_deny}
use Rattle.mq_acl.specs.Rows.{AclRow}
use Rattle.mq_acl.specs.RowsByOwner.{is_everyones}
use Rattle.mq_acl.specs.Views.{row_view}
use Rattle.mq_acl.specs.declared.access.Direction.{Direction}
use Rattle.mq_acl.specs.declared.row.Row.{Row}
use Rattle.mq_acl.specs.declared.rules.Rules.{Rules}
use Rattle.mq_acl.specs.declared.rules.Rules.TheVariants.{Own, Mosquitto}

-- `pattern` rows behind others, and in each those that grant behind those that deny
abbrev pub rank_of : (pattern deny : Bool) → ℕ
rank_of false true = 0
rank_of false false = 1
rank_of true true = 2
rank_of true false = 3

-- by our own rules those that deny stand before those that grant, whatever line they are of; by mosquitto's `topic` lines
-- stand before `pattern` lines
abbrev pub rank : Rules → AclRow → ℕ
rank Own row = rank_of false (is_deny row.access)
rank Mosquitto row = rank_of (is_everyones row.who) (is_deny row.access)

-- it may decide about the direction
abbrev pub is_judge : Direction → AclRow → Bool
is_judge direction row = is_deny row.access || grants direction row.access

-- those of this rank, in the order of the list
abbrev pub ranked : Rules → Direction → ℕ → List Row → List Row
ranked rules direction place rows = filter (λ row. is_judge direction (row_view row)
    && (rank rules (row_view row) == place)) rows

-- the rows that may decide: the first that concerns a topic does
abbrev pub judges : Rules → Direction → List Row → List Row
judges rules direction rows = ranked rules direction 0 rows ++ (ranked rules direction 1 rows
    ++ (ranked rules direction 2 rows ++ ranked rules direction 3 rows))
