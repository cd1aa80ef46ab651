-- Where two lists differ.
use Rattle.std.specs.Prelude.{◌≡◌, ℕ, Bool, true, false, List, ◌==◌, ◌&&◌, ◌||◌, not, Option, All}
use Rattle.std.specs.Prelude.{AllPairs, Some, None, String, string_bytes, if◌then◌else◌, ◌++◌}
use Rattle.std.specs.declared.alloc.Global.{Global}
use Rattle.std.specs.List.{list_any}
use Rattle.std.specs.Str.{bytes_eq}
use Rattle.mq_topic.specs.Levels.{levels}
use Rattle.mq_topic.specs.Texts.{is_name}
use Rattle.mq_acl.specs.AccessLists.{allow_by}
use Rattle.mq_acl.specs.declared.rules.Rules.{Rules}
use Rattle.mq_acl.specs.Access.{begins_with_dollar}
use Rattle.mq_acl.specs.Refused.{refuses}
use Rattle.mq_acl.specs.Rows.{AclRow}
use Rattle.mq_acl.specs.Views.{row_views}
use Rattle.mq_acl.specs.declared.row.Row.{Row}
use Rattle.mq_acl.specs.declared.access.Direction.{Direction}
use Rattle.mq_acl.specs.declared.access.Direction.TheVariants.{Reading, Writing}
use Rattle.mq_acl.specs.declared.rules.Rules.TheVariants.{Own, Mosquitto}
use Rattle.mq_cover.specs.Remainders.{mark_passes}
use Rattle.mq_shapes.specs.Swaps.{swap_levels}
use Rattle.mq_shapes.specs.Swaps as leveled
use Rattle.mq_witness.specs.Asked.{AskedRows, StandsFor}
use Rattle.mq_witness.specs.Leveled.{StandsForLevel}
use Rattle.mq_witness.specs.Clients.{can_be_id}
use Rattle.mq_witness.specs.Ruled.{AreKnownBy, is_stand_in, names_by}
use Rattle.mq_witness.specs.Swaps.{swap, swap_user, swap_name}
use Rattle.mq_differences.specs.Classes.{user_of, is_in, can_be_user}
use Rattle.mq_differences.specs.Reasons.{reason_of}
use Rattle.mq_differences.specs.declared.class.Class.{Class}
use Rattle.mq_differences.specs.declared.class.Class.TheVariants.{Anonymous, User, Others}
use Rattle.mq_differences.specs.declared.difference.Difference.{Difference}
use Rattle.mq_differences.specs.declared.reason.Reason.{Reason}
use Rattle.mq_differences.specs.declared.reason.Reason.TheVariants.{Broker, Deny, Grant, NoGrant}
use Rattle.mq_differences.specs.declared.way.Way.{Way}
use Rattle.mq_differences.specs.declared.way.Way.TheVariants.{Gained, Lost}

-- the one list allows it, and the other doesn't
abbrev pub is_gained : Rules → (from to : List AclRow) → List ℕ → Option (List ℕ) → List ℕ
    → Direction → Bool
is_gained rules from to client user topic direction =
    allow_by rules to client user topic direction
    && not (allow_by rules from client user topic direction)

-- the new list allows it and the old one doesn't, or the other way round
abbrev pub is_change : Rules → Way → List AclRow → List AclRow → List ℕ → Option (List ℕ)
    → List ℕ → Direction → Bool
is_change rules Gained old new client user topic direction =
    is_gained rules old new client user topic direction
is_change rules Lost old new client user topic direction =
    is_gained rules new old client user topic direction

abbrev pub same_direction : Direction → Direction → Bool
same_direction Reading Reading = true
same_direction Reading Writing = false
same_direction Writing Reading = false
same_direction Writing Writing = true

abbrev pub same_way : Way → Way → Bool
same_way Gained Gained = true
same_way Gained Lost = false
same_way Lost Gained = false
same_way Lost Lost = true

abbrev pub same_class : Class → Class → Bool
same_class Anonymous Anonymous = true
same_class (User name) (User other) = bytes_eq (string_bytes name) (string_bytes other)
same_class (Others name) (Others other) = true
same_class class other = false

abbrev pub same_reason : Reason → Reason → Bool
same_reason (Deny line) (Deny other) = line == other
same_reason (Grant line) (Grant other) = line == other
same_reason NoGrant NoGrant = true
same_reason Broker Broker = true
same_reason reason other = false

-- both begin with `$`, or neither does
abbrev pub same_start : List ℕ → List ℕ → Bool
same_start topic other =
    if begins_with_dollar topic then begins_with_dollar other else not (begins_with_dollar other)

-- the same lines decide both
abbrev pub same_reasons : Difference → Difference → Bool
same_reasons d e = same_reason d.old_reason e.old_reason && same_reason d.new_reason e.new_reason

-- both are of the same class, direction and way, of topics that begin with `$` or of others, and the
-- same lines decide them
abbrev pub is_like : Difference → Difference → Bool
is_like d e = same_class d.class e.class && same_direction d.direction e.direction
    && same_way d.way e.way && same_start d.topic e.topic && same_reasons d e

-- the difference is of this way and direction, of the class of this client, of topics that begin with
-- `$` if this one does, and the lines that decide it decide this
abbrev pub is_shown_of : Rules → (old new : List Row) → Way → Direction → List ℕ
    → Option (List ℕ) → List ℕ → Difference → Bool
is_shown_of rules old new way direction client user topic d =
    is_in (row_views old) (row_views new) user d.class && same_direction direction d.direction
    && same_way way d.way && same_start topic d.topic
    && (same_reason (reason_of rules old client user topic direction) d.old_reason
    && same_reason (reason_of rules new client user topic direction) d.new_reason)

-- whatever changes for a client that a broker can have is shown
abbrev pub ShowsAll : Rules → (old new : List Row) → List Difference → Type 0
ShowsAll rules old new all = (way : Way) (direction : Direction) (client topic : List ℕ)
    (user : Option (List ℕ)) → can_be_id client ≡ true → can_be_user user ≡ true
    → is_name topic ≡ true
    → is_change rules way (row_views old) (row_views new) client user topic direction ≡ true
    → list_any (is_shown_of rules old new way direction client user topic) all ≡ true

-- what is shown is so of this client and topic: a broker can have it, it is of the class, it does
-- change, and these lines decide
pub record Shows (rules : Rules) (old new : List Row) (d : Difference) (client : List ℕ)
    (user : Option (List ℕ)) (topic : List ℕ) : Type 0 where
  pub client_fits : can_be_id client ≡ true
  pub user_fits : can_be_user user ≡ true
  pub valid : is_name topic ≡ true
  pub class : is_in (row_views old) (row_views new) user d.class ≡ true
  pub change : is_change rules d.way (row_views old) (row_views new) client user topic d.direction
      ≡ true
  pub old_reason : d.old_reason ≡ reason_of rules old client user topic d.direction
  pub new_reason : d.new_reason ≡ reason_of rules new client user topic d.direction

-- it is so of the client and the topic that it names
abbrev pub IsReal : Rules → (old new : List Row) → Difference → Type 0
IsReal rules old new d = Shows rules old new d (string_bytes d.client) (user_of d.class) d.topic

-- no two are alike
abbrev pub AreApart : List Difference → Type 0
AreApart all = AllPairs (λ d e. is_like d e ≡ false) all

-- the text is this id; by mosquitto's rules it is a level of it
abbrev pub is_part : Rules → (text id : List ℕ) → Bool
is_part Own text id = bytes_eq text id
is_part Mosquitto text id = list_any (bytes_eq text) (levels id)

abbrev pub is_user_part : Rules → (text : List ℕ) → Option (List ℕ) → Bool
is_user_part rules text None = false
is_user_part rules text (Some user) = is_part rules text user

-- the text is the client id, the user name or a level of the topic; by mosquitto's rules a level of one of them
abbrev pub is_of : Rules → (text client : List ℕ) → Option (List ℕ) → (topic : List ℕ) → Bool
is_of rules text client user topic =
    is_part rules text client || is_user_part rules text user
    || list_any (bytes_eq text) (levels topic)

abbrev pub has_text : List (String Global) → List ℕ → Bool
has_text texts text = list_any (λ t. bytes_eq text (string_bytes t)) texts

-- the placeholders that it lists are its own
abbrev pub IsMarked : AskedRows → Difference → Type 0
IsMarked asked d = (text : List ℕ) → has_text d.placeholders.items text
    ≡ (is_of asked.rules text (string_bytes d.client) (user_of d.class) d.topic
    && is_stand_in asked text)

-- it is so too with any text in the place of a placeholder that stands for it, where no text is too long then, and the broker
-- doesn't refuse that topic; by mosquitto's rules level by level
abbrev pub ShowsOthers : Rules → (old new : List Row) → AskedRows → Difference → Type 0
ShowsOthers Own old new asked d = (text other : List ℕ) → StandsFor asked text other
    → is_name (swap_name text other d.topic) ≡ true
    → refuses Own d.direction (swap_name text other d.topic) ≡ false
    → Shows Own old new d (swap text other (string_bytes d.client))
    (swap_user text other (user_of d.class)) (swap_name text other d.topic)
ShowsOthers Mosquitto old new asked d = (level other : List ℕ) → StandsForLevel asked level other
    → can_be_id (swap_levels level other (string_bytes d.client)) ≡ true
    → mark_passes can_be_id (leveled.swap_user level other (user_of d.class)) ≡ true
    → is_name (swap_levels level other d.topic) ≡ true
    → refuses Mosquitto d.direction (swap_levels level other d.topic) ≡ false
    → Shows Mosquitto old new d (swap_levels level other (string_bytes d.client))
    (leveled.swap_user level other (user_of d.class)) (swap_levels level other d.topic)

-- no row names the text
abbrev pub IsUnnamed : AskedRows → String Global → Type 0
IsUnnamed asked text = names_by asked.rules (string_bytes text) asked.rows ≡ false

-- no row names any of its placeholders
abbrev pub AreUnnamed : AskedRows → Difference → Type 0
AreUnnamed asked d = All (IsUnnamed asked) d.placeholders.items

-- a row names each of its texts, or it is a placeholder
abbrev pub IsKnown : AskedRows → Difference → Type 0
IsKnown asked d = AreKnownBy asked.rules asked (string_bytes d.client) (user_of d.class) d.topic

-- some texts are placeholders: each difference lists those that it has, which are the ones that no
-- row of either list names, and they stand for others
pub record AreMarked (rules : Rules) (old new : List Row) (all : List Difference) : Type 0 where
  pub asked : AskedRows
  pub rules_are : asked.rules ≡ rules
  pub rows : asked.rows ≡ row_views old ++ row_views new
  pub marked : All (IsMarked asked) all
  pub unnamed : All (AreUnnamed asked) all
  pub known : All (IsKnown asked) all
  pub stands : All (ShowsOthers rules old new asked) all
