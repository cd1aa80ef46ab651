-- Who may read or write the topics that a filter matches, and whether anybody but some users may.
use Rattle.std.specs.List.{list_any, slice_split, list_all}
use Rattle.std.specs.Prelude.{◌≡◌, ◌⊎◌, ℕ, Bool, true, false, List, ◌&&◌, ◌==◌, not, Option, Some}
use Rattle.std.specs.Prelude.{None, Ok, codes, if◌then◌else◌, string_bytes, length, ◌<◌, ◌+◌}
use Rattle.std.specs.Str.{bytes_eq}
use Rattle.mq_acl.specs.AccessLists.{allow_by}
use Rattle.mq_acl.specs.Lines.{is_pattern_level}
use Rattle.mq_acl.specs.Rows.{AclRow, rows_by}
use Rattle.mq_acl.specs.declared.access.Direction.{Direction}
use Rattle.mq_acl.specs.declared.row.Row.{Row}
use Rattle.mq_acl.specs.declared.rules.Rules.{Rules}
use Rattle.mq_acl.specs.declared.rules.Rules.TheVariants.{Mosquitto}
use Rattle.mq_ask.specs.Failures.{IsRowLine}
use Rattle.mq_ask.specs.Lists.{AreRows}
use Rattle.mq_ask.specs.declared.failure.Failure.{Failure}
use Rattle.mq_print.specs.declared.list.ListText.{ListText}
use Rattle.mq_ask.specs.declared.outcome.Outcome.{Outcome}
use Rattle.mq_ask.specs.declared.outcome.Outcome.TheVariants.{Clear, Remark}
use Rattle.mq_differences.specs.Classes.{can_be_user}
use Rattle.mq_differences.specs.Differences.{same_direction}
use Rattle.mq_differences.specs.Steps.{enough_steps}
use Rattle.mq_differences.specs.declared.class.Class.{Class}
use Rattle.mq_differences.specs.declared.difference.Difference.{Difference}
use Rattle.mq_topic.specs.Levels.{levels}
use Rattle.mq_topic.specs.Texts.{is_filter, is_name, is_shared}
use Rattle.mq_who.specs.Made.{most_made}
use Rattle.mq_who.specs.Who.{IsListing, is_asked, is_case}
use Rattle.mq_who.specs.declared.permissions.Permissions.{Permissions}
use Rattle.mq_witness.specs.Clients.{can_be_id}
use Rattle.mq_witness.specs.Limits.{has_short_levels}
use Rattle.mq_witness.specs.Rows.{is_user_of}
use Rattle.mq_ask.specs.declared.failure.Failure.TheVariants as failure
use Rattle.mq_differences.specs.declared.class.Class.TheVariants as classes

-- a topic filter, and no shared subscription
abbrev pub is_unshared : (wanted : List ℕ) → Bool
is_unshared wanted = not (is_shared wanted) && is_filter wanted

-- the list with this text allows this of what the filter matches, and doesn't allow that; whatever
-- else it matches for a client that is asked about is one or the other
pub record ArePermissions (rules : Rules) (text wanted : List ℕ) (p : Permissions) : Type 0 where
  pub rows : List Row
  pub are_rows : AreRows rules text rows
  pub granted : IsListing rules true rows wanted p.granted.items
  pub refused : IsListing rules false rows wanted p.refused.items

-- ---- who is asked about
-- it is asked of this direction: of both, where none is named
abbrev pub is_wanted : (access : Option Direction) → Direction → Bool
is_wanted None direction = true
is_wanted (Some access) direction = same_direction access direction

abbrev pub is_comma : ℕ → Bool
is_comma b = b == 44

-- the words between the commas
abbrev pub words_in : List ℕ → List (List ℕ)
words_in only = slice_split is_comma only

abbrev pub is_dash : List ℕ → Bool
is_dash word = bytes_eq word (codes "-")

abbrev pub is_star : List ℕ → Bool
is_star word = bytes_eq word (codes "*")

-- the word names this user
abbrev pub names : (word user : List ℕ) → Bool
names word user = not (is_dash word) && not (is_star word) && bytes_eq user word

-- the word means the client of this user name, or without one: `-` each without, `*` that of each user
-- name that the list doesn't name, and any other word that of the user with this name, which it names
abbrev pub means : List AclRow → (word : List ℕ) → Option (List ℕ) → Bool
means rows word None = is_dash word
means rows word (Some user) = if is_user_of user rows then names word user else is_star word

-- none of the words means the client
abbrev pub is_other : List AclRow → (only : Option (List ℕ)) → Option (List ℕ) → Bool
is_other rows None user = true
is_other rows (Some only) user = not (list_any (λ word. means rows word user) (words_in only))

-- ---- what is shown
-- some client that isn't left out may, in a direction that is asked of
pub record OthersMay (rules : Rules) (rows : List AclRow) (wanted : List ℕ)
    (access : Option Direction) (only : Option (List ℕ)) : Type 0 where
  pub direction : Direction
  pub client : List ℕ
  pub user : Option (List ℕ)
  pub topic : List ℕ
  pub asked : is_wanted access direction ≡ true
  pub client_fits : can_be_id client ≡ true
  pub user_fits : can_be_user user ≡ true
  pub valid : is_name topic ≡ true
  pub other : is_other rows only user ≡ true
  pub case : is_case rules true rows wanted client user topic direction ≡ true

-- or none may, of those that a broker can have
abbrev pub NoOtherMay : Rules → List AclRow → (wanted : List ℕ) → (access : Option Direction)
    → (only : Option (List ℕ)) → Type 0
NoOtherMay rules rows wanted access only = (direction : Direction) (client topic : List ℕ)
    (user : Option (List ℕ)) → is_wanted access direction ≡ true → can_be_id client ≡ true
    → can_be_user user ≡ true → is_name topic ≡ true
    → is_other rows only user ≡ true → is_asked rules wanted client user topic ≡ true
    → allow_by rules rows client user topic direction ≡ false

-- where some are left out, it is shown whether others may
abbrev pub SaysWhetherOthers : Rules → List AclRow → (wanted : List ℕ)
    → (access : Option Direction) → (only : Option (List ℕ)) → Outcome → Type 0
SaysWhetherOthers rules rows wanted access None outcome = outcome ≡ Clear
SaysWhetherOthers rules rows wanted access (Some only) Clear =
    NoOtherMay rules rows wanted access (Some only)
SaysWhetherOthers rules rows wanted access (Some only) Remark =
    OthersMay rules rows wanted access (Some only)

-- and so is it of the list with this text
pub record IsWho (rules : Rules) (text wanted : List ℕ) (access : Option Direction)
    (only : Option (List ℕ)) (outcome : Outcome) : Type 0 where
  pub rows : List AclRow
  pub read : rows_by rules text ≡ Ok rows
  pub shown : SaysWhetherOthers rules rows wanted access only outcome

-- ---- by classes
-- the word means the clients of the class
abbrev pub has_word : Class → (word : List ℕ) → Bool
has_word classes.Anonymous word = is_dash word
has_word (classes.User name) word = names word (string_bytes name)
has_word (classes.Others name) word = is_star word

abbrev pub is_left_out : (only : List ℕ) → Class → Bool
is_left_out only class = list_any (has_word class) (words_in only)

abbrev pub is_kept : (only : Option (List ℕ)) → Class → Bool
is_kept None class = true
is_kept (Some only) class = not (is_left_out only class)

-- it is of a direction that is asked of, and of clients that aren't left out
abbrev pub is_shown : (access : Option Direction) → (only : Option (List ℕ)) → Difference → Bool
is_shown access only d = is_wanted access d.direction && is_kept only d.class

-- ---- why nothing is answered
-- so many steps didn't suffice to know who may by the list with this text; more are enough
abbrev pub IsFewSteps : Rules → (text : List ℕ) → (steps : ℕ) → Type 0
IsFewSteps rules text steps =
    (rows : List Row) × AreRows rules text rows
    × (steps < enough_steps (length rows + most_made rules (length rows)))

-- and it is the line of a row that was looked at
abbrev pub IsFewStepsAt : Rules → ListText → (file : List ℕ) → (line steps : ℕ) → Type 0
IsFewStepsAt rules list file line steps = (rows : List Row) × AreRows rules list.text.now rows
    × IsRowLine list rows file line
    × (steps < enough_steps (length rows + most_made rules (length rows)))

-- what is shown of a filter where it is asked who may is so: it is none, or a shared one; a level of it is
-- too long; by mosquitto's rules a mark is a part of a level; or the steps are spent
abbrev pub IsWhoFailure : Rules → ListText → (wanted : List ℕ) → (steps : ℕ) → Failure → Type 0
IsWhoFailure rules list wanted steps (failure.Filter given) =
    (given.now ≡ wanted) × (is_unshared wanted ≡ false)
IsWhoFailure rules list wanted steps failure.LongWord = has_short_levels wanted ≡ false
IsWhoFailure rules list wanted steps (failure.FilterMark given) = (given.now ≡ wanted)
    × (rules ≡ Mosquitto) × (list_all is_pattern_level (levels wanted) ≡ false)
IsWhoFailure rules list wanted steps (failure.GaveUp file line others) =
    IsFewStepsAt rules list file.now line steps
IsWhoFailure rules list wanted steps (failure.FilterGaveUp file others) =
    (file.now ≡ list.file.now) × IsFewSteps rules list.text.now steps
IsWhoFailure rules list wanted steps other = ⊥
