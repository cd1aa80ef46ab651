-- Who may read or write the topics that a filter matches.
use Rattle.std.specs.Prelude.{◌≡◌, ℕ, Bool, true, false, List, [], ◌&&◌, ◌||◌, not, Option, Some, None, All}
use Rattle.std.specs.Prelude.{AllPairs, codes, if◌then◌else◌, string_bytes}
use Rattle.std.specs.List.{list_any}
use Rattle.std.specs.Option.{unwrap_or}
use Rattle.mq_topic.specs.Levels.{levels}
use Rattle.mq_topic.specs.Matching.{levels_match_by, matches}
use Rattle.mq_topic.specs.Texts.{is_name, is_plain}
use Rattle.mq_acl.specs.Access.{begins_with_dollar, pattern_level_matches}
use Rattle.mq_acl.specs.AccessLists.{allow_by}
use Rattle.mq_acl.specs.Filled.{filled}
use Rattle.mq_acl.specs.Mosquitto.{known_user}
use Rattle.mq_acl.specs.Mosquitto as mosquitto
use Rattle.mq_acl.specs.Refused.{refuses}
use Rattle.mq_acl.specs.Rows.{AclRow}
use Rattle.mq_acl.specs.Views.{row_views}
use Rattle.mq_acl.specs.Words.{occurs_in}
use Rattle.mq_acl.specs.declared.access.Direction.{Direction}
use Rattle.mq_acl.specs.declared.row.Row.{Row}
use Rattle.mq_acl.specs.declared.rules.Rules.{Rules}
use Rattle.mq_acl.specs.declared.rules.Rules.TheVariants.{Own, Mosquitto}
use Rattle.mq_cover.specs.Remainders.{mark_passes}
use Rattle.mq_shapes.specs.Swaps.{swap_levels}
use Rattle.mq_shapes.specs.Swaps as leveled
use Rattle.mq_witness.specs.Asked.{AskedRows, StandsFor}
use Rattle.mq_witness.specs.Clients.{can_be_id}
use Rattle.mq_witness.specs.Leveled.{StandsForLevel}
use Rattle.mq_witness.specs.Literals.{is_literal_in}
use Rattle.mq_witness.specs.Roots.{same}
use Rattle.mq_witness.specs.Rows.{is_user_of}
use Rattle.mq_witness.specs.Ruled.{names_by}
use Rattle.mq_witness.specs.Swaps.{swap, swap_user, swap_name}
use Rattle.mq_differences.specs.Classes.{can_be_user, is_in, user_of}
use Rattle.mq_differences.specs.Differences.{AreUnnamed, IsKnown, IsMarked, same_direction}
use Rattle.mq_differences.specs.Differences.{same_reason}
use Rattle.mq_differences.specs.Differences.{same_class, same_start}
use Rattle.mq_differences.specs.Reasons.{reason_of}
use Rattle.mq_differences.specs.declared.class.Class.{Class}
use Rattle.mq_differences.specs.declared.difference.Difference.{Difference}

-- ---- what the filter asks
-- `%c` or `%u` stands in the filter
abbrev pub has_mark : List ℕ → Bool
has_mark wanted = occurs_in (codes "%c") wanted || occurs_in (codes "%u") wanted

-- the filter matches the topic for this client. By our own rules as that of a `pattern` line does:
-- level by level as a topic filter (MQTT 5.0, section 4.7), where `%c` is the client's own id and
-- `%u` its user name; a topic that begins with `$` wants a filter that does, as it is written. By
-- mosquitto's a filter with such a mark matches as that of a `pattern` line too: with those texts
-- in the place of its marks, unless such a line is passed over for the client. One without a mark
-- matches as it stands, whoever the client is
abbrev pub is_asked : Rules → (wanted client : List ℕ) → Option (List ℕ) → (topic : List ℕ) → Bool
is_asked Own wanted client user topic =
    (not (begins_with_dollar topic) || begins_with_dollar wanted)
    && levels_match_by (pattern_level_matches client user) (levels wanted) (levels topic)
is_asked Mosquitto wanted client user topic =
    if has_mark wanted then mosquitto.is_asked client (known_user user) wanted
    && matches (levels (filled client (unwrap_or (known_user user) []) wanted)) (levels topic)
    else matches (levels wanted) (levels topic)

-- ---- who is asked about
-- who may is asked of all clients. By mosquitto's rules `pattern` lines are passed over for clients
-- whose id or user name holds `+` or `#`, so that few lists allow them what they allow others. So
-- who may not isn't asked of those with such an id, unless their user name is such a one that a
-- line names; nor of those with such a user name that no line names
abbrev pub is_left_out : Rules → List AclRow → (client : List ℕ) → Option (List ℕ) → Bool
is_left_out Own rows client user = false
is_left_out Mosquitto rows client None = not (is_plain client)
is_left_out Mosquitto rows client (Some user) =
    if is_user_of user rows then is_plain user && not (is_plain client)
    else not (is_plain client && is_plain user)

-- the list allows the client to read or write it, or doesn't. Nothing is asked about topics that
-- the broker refuses by itself: no line decides them, and no client may read or write them
abbrev pub is_case : Rules → (allows : Bool) → List AclRow → (wanted client : List ℕ)
    → Option (List ℕ) → (topic : List ℕ) → Direction → Bool
is_case rules allows rows wanted client user topic direction =
    not (refuses rules direction topic) && is_asked rules wanted client user topic
    && same allows (allow_by rules rows client user topic direction)

-- the clients of this user name, or without one, are in the class, of which one is that of all user
-- names that the list doesn't name
abbrev pub is_member : List AclRow → Option (List ℕ) → Class → Bool
is_member rows user class = is_in rows [] user class

-- ---- what is listed
-- of this direction, of the class of this client, of topics that begin with `$` if this one does,
-- and decided by the line that decides this
abbrev pub is_listed_in : Rules → List Row → Direction → List ℕ → Option (List ℕ) → List ℕ
    → Difference → Bool
is_listed_in rules rows direction client user topic d =
    is_member (row_views rows) user d.class && same_direction direction d.direction
    && same_start topic d.topic
    && same_reason (reason_of rules rows client user topic direction) d.old_reason

-- each topic that the filter matches for a client that a broker can have, and that the list allows
-- it, is listed; or each that it doesn't allow it, unless the client is left out
abbrev pub ListsAll : Rules → (allows : Bool) → List Row → (wanted : List ℕ) → List Difference
    → Type 0
ListsAll rules allows rows wanted all = (direction : Direction) (client topic : List ℕ)
    (user : Option (List ℕ)) → can_be_id client ≡ true → can_be_user user ≡ true
    → (not allows && is_left_out rules (row_views rows) client user) ≡ false → is_name topic ≡ true
    → is_case rules allows (row_views rows) wanted client user topic direction ≡ true
    → list_any (is_listed_in rules rows direction client user topic) all ≡ true

-- what is listed is so of this client and topic: a broker can have it, it is of the class, the
-- filter matches it, the list allows it or doesn't, and this line decides
pub record Shows (rules : Rules) (allows : Bool) (rows : List Row) (wanted : List ℕ)
    (d : Difference) (client : List ℕ) (user : Option (List ℕ)) (topic : List ℕ) : Type 0 where
  pub client_fits : can_be_id client ≡ true
  pub user_fits : can_be_user user ≡ true
  pub valid : is_name topic ≡ true
  pub member : is_member (row_views rows) user d.class ≡ true
  pub case : is_case rules allows (row_views rows) wanted client user topic d.direction ≡ true
  pub reason : d.old_reason ≡ reason_of rules rows client user topic d.direction

-- it is so of the client and the topic that it names
abbrev pub IsReal : Rules → (allows : Bool) → List Row → (wanted : List ℕ) → Difference → Type 0
IsReal rules allows rows wanted d =
    Shows rules allows rows wanted d (string_bytes d.client) (user_of d.class) d.topic

-- it is so too with any text in the place of a placeholder that stands for it, where no text is too
-- long then, and the broker doesn't refuse the topic by itself; by mosquitto's rules level by level
abbrev pub ShowsOthers : Rules → (allows : Bool) → List Row → (wanted : List ℕ) → AskedRows
    → Difference → Type 0
ShowsOthers Own allows rows wanted asked d = (text other : List ℕ) → StandsFor asked text other
    → is_name (swap_name text other d.topic) ≡ true
    → refuses Own d.direction (swap_name text other d.topic) ≡ false
    → Shows Own allows rows wanted d (swap text other (string_bytes d.client))
    (swap_user text other (user_of d.class)) (swap_name text other d.topic)
ShowsOthers Mosquitto allows rows wanted asked d = (level other : List ℕ)
    → StandsForLevel asked level other
    → can_be_id (swap_levels level other (string_bytes d.client)) ≡ true
    → mark_passes can_be_id (leveled.swap_user level other (user_of d.class)) ≡ true
    → is_name (swap_levels level other d.topic) ≡ true
    → refuses Mosquitto d.direction (swap_levels level other d.topic) ≡ false
    → Shows Mosquitto allows rows wanted d (swap_levels level other (string_bytes d.client))
    (leveled.swap_user level other (user_of d.class)) (swap_levels level other d.topic)

-- of the same class and direction, of topics that begin with `$` or of others, and decided by the
-- same line
abbrev pub is_like : Difference → Difference → Bool
is_like d e = same_class d.class e.class && same_direction d.direction e.direction
    && same_start d.topic e.topic && same_reason d.old_reason e.old_reason

-- some texts are placeholders, and by mosquitto's rules some levels: what is listed has its own,
-- which neither the list nor the filter names, and they stand for others
pub record AreMarked (rules : Rules) (allows : Bool) (rows : List Row) (wanted : List ℕ)
    (all : List Difference) : Type 0 where
  pub asked : AskedRows
  pub rules_are : asked.rules ≡ rules
  pub names : (text : List ℕ) → names_by asked.rules text asked.rows
      ≡ (names_by asked.rules text (row_views rows) || is_literal_in text (levels wanted))
  pub marked : All (IsMarked asked) all
  pub unnamed : All (AreUnnamed asked) all
  pub known : All (IsKnown asked) all
  pub stands : All (ShowsOthers rules allows rows wanted asked) all

-- all that the list allows of what the filter matches, or all that it doesn't, and no two alike
pub record IsListing (rules : Rules) (allows : Bool) (rows : List Row) (wanted : List ℕ)
    (all : List Difference) : Type 0 where
  pub lists : ListsAll rules allows rows wanted all
  pub real : All (IsReal rules allows rows wanted) all
  pub once : AllPairs (λ d e. is_like d e ≡ false) all
  pub marked : AreMarked rules allows rows wanted all
