-- Who may read and write which topics (mosquitto.conf(5), `acl_file`).
use Rattle.std.specs.Prelude.{ℕ, Bool, true, false, List, ◌==◌, ◌&&◌, ◌||◌, not, if◌then◌else◌}
use Rattle.std.specs.Prelude.{codes, slice_index, Option, Some, None}
use Rattle.std.specs.List.{list_any}
use Rattle.std.specs.Str.{bytes_eq}
use Rattle.mq_topic.specs.Levels.{levels}
use Rattle.mq_topic.specs.Matching.{level_matches, levels_match_by}
use Rattle.mq_acl.specs.Rows.{Who, Anonymous, Named, Everyone, AclRow}
use Rattle.mq_acl.specs.Lines.{Access, Read, Write, ReadWrite, Deny}
use Rattle.mq_acl.specs.declared.access.Direction.{Direction}
use Rattle.mq_acl.specs.declared.access.Direction.TheVariants.{Reading, Writing}

-- whether a row is for clients of this user name, or without one: that of a `topic` line for clients of the user whose
-- line stands before it, or without a user name where none does; that of a `pattern` line for all (mosquitto.conf(5))
abbrev pub applies : Option (List ℕ) → Who → Bool
applies None Anonymous = true
applies (Some user) Anonymous = false
applies None (Named name) = false
applies (Some user) (Named name) = bytes_eq user name
applies user Everyone = true

-- the level is the user name; none is where there is no user name (the latter is our own rule)
abbrev pub is_user : List ℕ → Option (List ℕ) → Bool
is_user level None = false
is_user level (Some user) = bytes_eq level user

-- in a `pattern` row `%c` is the level that equals the client id, and `%u` the one that equals the user name
-- (mosquitto.conf(5)); what the client and the user are called is never read as a wildcard
abbrev pub pattern_level_matches : List ℕ → Option (List ℕ) → List ℕ → List ℕ → Bool
pattern_level_matches client user wanted level =
    if bytes_eq wanted (codes "%c") then bytes_eq level client
    else (if bytes_eq wanted (codes "%u") then is_user level user
    else level_matches wanted level)

-- in a `topic` row `%c` and `%u` are plain text (mosquitto.conf(5))
abbrev pub row_level_matches : Who → List ℕ → Option (List ℕ) → List ℕ → List ℕ → Bool
row_level_matches Everyone client user wanted level = pattern_level_matches client user wanted level
row_level_matches who client user wanted level = level_matches wanted level

abbrev pub begins_with_dollar : List ℕ → Bool
begins_with_dollar text = slice_index text 0 == 36

-- the row covers the name, for this client and user: level by level, as a topic filter does (MQTT 5.0, section 4.7);
-- and a name that begins with `$` is covered only by a row that begins with `$` as it is written (our own rule)
abbrev pub covers : List ℕ → Option (List ℕ) → List ℕ → AclRow → Bool
covers client user name row =
    (not (begins_with_dollar name) || begins_with_dollar row.filter)
    && levels_match_by (row_level_matches row.who client user) (levels row.filter) (levels name)

-- the row applies, and covers the name
abbrev pub concerns : List ℕ → Option (List ℕ) → List ℕ → AclRow → Bool
concerns client user name row = applies user row.who && covers client user name row

abbrev pub is_deny : Access → Bool
is_deny Deny = true
is_deny access = false

-- the access words that grant each direction (mosquitto.conf(5))
abbrev pub grants : Direction → Access → Bool
grants Reading Read = true
grants Writing Write = true
grants direction ReadWrite = true
grants direction access = false

-- no row that concerns the name denies, and one grants. Deny lines are handled before lines that grant
-- (mosquitto.conf(5)); that this holds across `topic` and `pattern` lines is our own rule
abbrev pub rows_allow : List AclRow → List ℕ → Option (List ℕ) → List ℕ → Direction → Bool
rows_allow rows client user name direction =
    not (list_any (λ row. concerns client user name row && is_deny row.access) rows)
    && list_any (λ row. concerns client user name row && grants direction row.access) rows
