-- What an access list allows, by its rules.
use Rattle.std.specs.Prelude.{ℕ, Bool, true, List, Option, Some, None, ◌&&◌, not}
use Rattle.std.specs.Prelude.{codes, if◌then◌else◌}
use Rattle.std.specs.Str.{bytes_eq}
use Rattle.mq_acl.specs.Access.{applies, concerns, rows_allow}
use Rattle.mq_acl.specs.Mosquitto.{known_user, mosquitto_allows, row_covers}
use Rattle.mq_acl.specs.Refused.{refuses}
use Rattle.mq_acl.specs.Rows.{AclRow}
use Rattle.mq_acl.specs.declared.access.Direction.{Direction}
use Rattle.mq_acl.specs.declared.rules.Rules.{Rules}
use Rattle.mq_acl.specs.declared.rules.Rules.TheVariants.{Own, Mosquitto}

-- the rows of a list, and the rules by which they decide
pub record AccessList : Type 0 where
  pub rules : Rules
  pub rows : List AclRow

-- whether rows grant it by these rules
abbrev pub grant_by : Rules → List AclRow → List ℕ → Option (List ℕ) → List ℕ → Direction → Bool
grant_by Own rows client user name direction = rows_allow rows client user name direction
grant_by Mosquitto rows client user name direction =
    mosquitto_allows rows client user name direction

-- whether it is allowed with these rows: they grant it, and the broker doesn't refuse it by itself
abbrev pub allow_by : Rules → List AclRow → List ℕ → Option (List ℕ) → List ℕ → Direction → Bool
allow_by rules rows client user name direction =
    not (refuses rules direction name) && grant_by rules rows client user name direction

-- without an access list everything is allowed (mosquitto.conf(5))
unfoldable pub allowed : Option AccessList → List ℕ → Option (List ℕ) → List ℕ → Direction → Bool
allowed None client user name direction = true
allowed (Some list) client user name direction =
    allow_by list.rules list.rows client user name direction

-- the rules that a word names
abbrev pub rules_named : List ℕ → Option Rules
rules_named word =
    if bytes_eq word (codes "own") then Some Own
    else (if bytes_eq word (codes "mosquitto") then Some Mosquitto
    else None)

-- whose user name a client is asked by: an empty one is none by mosquitto's rules
abbrev pub user_by : Rules → Option (List ℕ) → Option (List ℕ)
user_by Own user = user
user_by Mosquitto user = known_user user

-- the row applies, and covers the name
abbrev pub concerns_by : Rules → List ℕ → Option (List ℕ) → List ℕ → AclRow → Bool
concerns_by Own client user name row = concerns client user name row
concerns_by Mosquitto client user name row =
    applies user row.who && row_covers client user name row

-- the list of our own rules with these rows
abbrev pub own_list : List AclRow → AccessList
own_list rows = record { rules = Own; rows = rows }
