-- Whether answers depend on the client id.
use Rattle.std.specs.Prelude.{ℕ, Bool, List, codes, ◌&&◌, ◌||◌, not}
use Rattle.std.specs.List.{list_any}
use Rattle.std.specs.Str.{bytes_eq}
use Rattle.mq_topic.specs.Levels.{levels}
use Rattle.mq_topic.specs.Matching.{level_matches, levels_match_by}
use Rattle.mq_acl.specs.Access.{begins_with_dollar}
use Rattle.mq_acl.specs.Rows.{AclRow}
use Rattle.mq_acl.specs.RowsByOwner.{is_everyones}
use Rattle.mq_acl.specs.declared.rules.Rules.{Rules}
use Rattle.mq_acl.specs.declared.rules.Rules.TheVariants.{Own, Mosquitto}

abbrev pub is_client_mark : List ℕ → Bool
is_client_mark level = bytes_eq level (codes "%c")

-- whether what the row covers may depend on the client id: that of a `pattern` line with the level
-- `%c`; by mosquitto's rules that of any `pattern` line, which passes ids with wildcards over
abbrev pub asks_client : Rules → AclRow → Bool
asks_client Own row = is_everyones row.who && list_any is_client_mark (levels row.filter)
asks_client Mosquitto row = is_everyones row.who

-- whether what the rows decide may
abbrev pub ask_client : Rules → List AclRow → Bool
ask_client rules rows = list_any (asks_client rules) rows

-- ## Of one topic

-- the level of a `pattern` row passes for some client and user name
abbrev pub may_be_level : List ℕ → List ℕ → Bool
may_be_level wanted level = is_client_mark wanted || bytes_eq wanted (codes "%u")
    || level_matches wanted level

-- a row for all clients covers the name for some of them
abbrev pub may_cover : List ℕ → AclRow → Bool
may_cover name row = (not (begins_with_dollar name) || begins_with_dollar row.filter)
    && levels_match_by may_be_level (levels row.filter) (levels name)

-- by our own rules, what a row for all clients decides about the name may depend on the client id
abbrev pub asks_own_about : List ℕ → AclRow → Bool
asks_own_about name row = list_any is_client_mark (levels row.filter) && may_cover name row

abbrev pub asks_client_about : Rules → List ℕ → AclRow → Bool
asks_client_about Own name row = is_everyones row.who && asks_own_about name row
asks_client_about Mosquitto name row = is_everyones row.who

-- whether what the rows decide about the name may
abbrev pub ask_client_about : Rules → List ℕ → List AclRow → Bool
ask_client_about rules name rows = list_any (asks_client_about rules name) rows
