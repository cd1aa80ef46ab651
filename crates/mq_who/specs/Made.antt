-- A list that is made of a filter, to be compared with a list.
use Rattle.std.specs.Prelude.{◌≡◌, ◌≤◌, ◌+◌, ℕ, Bool, true, false, List, ◌&&◌, ◌||◌, not, All, length}
use denote.Ref.{Bor}
use Rattle.std.specs.BTreeSet.{BTreeSet, contains_by}
use Rattle.std.specs.Cmp.Lexicographic.{slice_cmp}
use Rattle.std.specs.List.{list_any}
use Rattle.std.specs.Ordering.{nat_cmp}
use Rattle.mq_topic.specs.Texts.{is_plain}
use Rattle.mq_acl.specs.Lines.{Access, Deny, ReadWrite}
use Rattle.mq_acl.specs.Rows.{Who, Anonymous, Named, Everyone, AclRow}
use Rattle.mq_acl.specs.RowsByOwner.{is_everyones}
use Rattle.mq_acl.specs.Views.{row_view, row_views}
use Rattle.mq_acl.specs.declared.row.Row.{Row}
use Rattle.mq_acl.specs.declared.rules.Rules.{Rules}
use Rattle.mq_acl.specs.declared.rules.Rules.TheVariants.{Own, Mosquitto}
use Rattle.mq_witness.specs.Literals.{is_among}
use Rattle.mq_witness.specs.Rows.{is_name_of, is_user_of}
use Rattle.mq_differences.specs.Marks.{same_who}
use Rattle.mq_differences.specs.declared.reason.Reason.{Reason}
use Rattle.mq_differences.specs.declared.reason.Reason.TheVariants as reasons
use Rattle.mq_who.specs.Who.{has_mark}

-- what a list allows is what one loses that denies it, and what it doesn't, what one gains that
-- grants it
abbrev pub access_of : (allows : Bool) → Access
access_of true = Deny
access_of false = ReadWrite

-- the row of a line with this filter
abbrev pub made_row : Who → Access → List ℕ → AclRow
made_row who access wanted = record { who = who; access = access; filter = wanted }

-- ---- its rows
-- whose `topic` rows it has by mosquitto's rules, by which `pattern` lines are passed over for some
-- clients: where it is asked what a list allows, that of the clients without a user name and those
-- of all user names that the list names; where it is asked what it doesn't, those of these user
-- names with wildcards
abbrev pub has_own : (allows : Bool) → List AclRow → Who → Bool
has_own allows rows Anonymous = allows
has_own allows rows (Named user) = is_user_of user rows && (allows || not (is_plain user))
has_own allows rows Everyone = false

-- where the filter has a mark it asks what a `pattern` line does
abbrev pub wants_own : Rules → (wanted : List ℕ) → Bool
wants_own Own wanted = false
wants_own Mosquitto wanted = not (has_mark wanted)

-- whom its rows are for: one is that of a `pattern` line
abbrev pub is_made_for : Rules → (allows : Bool) → List AclRow → (wanted : List ℕ) → Who → Bool
is_made_for rules allows rows wanted who =
    is_everyones who || (wants_own rules wanted && has_own allows rows who)

abbrev pub has_row_for : List Row → Who → Bool
has_row_for rows who = list_any (λ row. same_who who row.who) (row_views rows)

-- each row has the filter, and is of no line of a text
pub record IsMadeRow (allows : Bool) (wanted : List ℕ) (row : Row) : Type 0 where
  pub access : (row_view row).access ≡ access_of allows
  pub filter : (row_view row).filter ≡ wanted
  pub line : row.line ≡ 0

-- such rows for these clients, and so many at most
pub record AreMadeFor (allows : Bool) (wanted : List ℕ) (whom : Who → Bool) (most : ℕ)
    (made : List Row) : Type 0 where
  pub owners : (who : Who) → has_row_for made who ≡ whom who
  pub rows : All (IsMadeRow allows wanted) made
  pub few : length made ≤ most

-- the most rows that it has, for a list of so many: two more than that names users
abbrev pub most_made : Rules → (rows : ℕ) → ℕ
most_made Own rows = 1
most_made Mosquitto rows = rows + 2

-- what is asked of the list is what changes from it to the one that is made, where a row of that
-- decides
abbrev pub IsMade : Rules → (allows : Bool) → (rows : List Row) → (wanted : List ℕ)
    → (made : List Row) → Type 0
IsMade rules allows rows wanted made =
    AreMadeFor allows wanted (is_made_for rules allows (row_views rows) wanted)
    (most_made rules (length rows)) made

-- a line decides
abbrev pub is_decided : Reason → Bool
is_decided reasons.NoGrant = false
is_decided reasons.Broker = false
is_decided (reasons.Deny line) = true
is_decided (reasons.Grant line) = true

-- ---- its users
-- a row of a list is for the clients of this user name, and they have a row of their own
abbrev pub is_own_of : (allows : Bool) → (user : List ℕ) → Who → Bool
is_own_of allows user who = is_name_of user who && (allows || not (is_plain user))

abbrev pub has_user : BTreeSet (Bor (List ℕ)) → List ℕ → Bool
has_user users user = contains_by (λ k. slice_cmp nat_cmp user k.now) users

abbrev pub is_named_in : List (Bor (List ℕ)) → Who → Bool
is_named_in users Anonymous = false
is_named_in users (Named user) = is_among user users
is_named_in users Everyone = false
