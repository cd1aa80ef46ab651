-- Where two lists differ.
use Rattle.std.specs.Prelude.{All, List, None, Ok, Option, Some, false, length, true, ℕ, ◌≢◌, ◌⊎◌}
use Rattle.std.specs.Prelude.{◌++◌, ◌<◌, [], ◌+◌, ◌≡◌, Bool, ◌&&◌, ◌||◌}
use Rattle.mq_acl.specs.AccessLists.{allow_by}
use Rattle.mq_acl.specs.Rows.{AclRow, rows_by}
use Rattle.mq_acl.specs.Views.{row_views}
use Rattle.mq_acl.specs.declared.access.Direction.{Direction}
use Rattle.mq_acl.specs.declared.row.Row.{Row}
use Rattle.mq_acl.specs.declared.rules.Rules.{Rules}
use Rattle.mq_ask.specs.Failures.{IsListFailure, IsRowLine}
use Rattle.mq_ask.specs.Lists.{AreRows, IsTaken}
use Rattle.mq_ask.specs.declared.failure.Failure.{Failure}
use Rattle.mq_ask.specs.declared.failure.Failure.TheVariants as failure
use Rattle.mq_print.specs.declared.list.ListText.{ListText}
use Rattle.mq_ask.specs.declared.outcome.Outcome.{Outcome}
use Rattle.mq_ask.specs.declared.outcome.Outcome.TheVariants.{Clear, Remark}
use Rattle.mq_ask_compare.specs.declared.compare.Changes.{Changes}
use Rattle.mq_differences.specs.Classes.{can_be_user}
use Rattle.mq_differences.specs.Differences.{AreApart, AreMarked, IsReal, ShowsAll, is_change}
use Rattle.mq_differences.specs.Steps.{enough_steps}
use Rattle.mq_differences.specs.declared.way.Way.{Way}
use Rattle.mq_lint.specs.Needless.{AllowSame}
use Rattle.mq_topic.specs.Texts.{is_name}
use Rattle.mq_witness.specs.Clients.{can_be_id}

-- the lists with these texts differ so by these rules, and not otherwise: all that changes for a client
-- that a broker can have is shown, and once
pub record AreChanges (rules : Rules) (old new : List ℕ) (c : Changes) : Type 0 where
  pub old_rows : AreRows rules old c.old.items
  pub new_rows : AreRows rules new c.new.items
  pub every : ShowsAll rules c.old.items c.new.items c.differences.items
  pub real : All (IsReal rules c.old.items c.new.items) c.differences.items
  pub once : AreApart c.differences.items
  pub marked : AreMarked rules c.old.items c.new.items c.differences.items
  pub same : c.differences.items ≡ []
      → AllowSame rules (row_views c.old.items) (row_views c.new.items)

-- some client that a broker can have may do by the one list what it may not by the other
pub record Differ (rules : Rules) (old new : List AclRow) : Type 0 where
  pub client : List ℕ
  pub user : Option (List ℕ)
  pub name : List ℕ
  pub direction : Direction
  pub client_fits : can_be_id client ≡ true
  pub user_fits : can_be_user user ≡ true
  pub valid : is_name name ≡ true
  pub differs : allow_by rules old client user name direction
      ≢ allow_by rules new client user name direction

-- nothing changes in this way for the clients that a broker can have
abbrev pub NoneChanges : Rules → Way → (old new : List AclRow) → Type 0
NoneChanges rules way old new = (client name : List ℕ) (user : Option (List ℕ))
    (direction : Direction) → can_be_id client ≡ true → can_be_user user ≡ true
    → is_name name ≡ true → is_change rules way old new client user name direction ≡ false

-- or something does for one of them
pub record SomeChanges (rules : Rules) (way : Way) (old new : List AclRow) : Type 0 where
  pub client : List ℕ
  pub user : Option (List ℕ)
  pub name : List ℕ
  pub direction : Direction
  pub client_fits : can_be_id client ≡ true
  pub user_fits : can_be_user user ≡ true
  pub valid : is_name name ≡ true
  pub changes : is_change rules way old new client user name direction ≡ true

-- whether the rows allow the same to the clients that a broker can have is shown; or whether one list
-- allows nothing that the other doesn't
abbrev pub SaysWhetherSame : Rules → (only : Option Way) → (old new : List AclRow) → Outcome
    → Type 0
SaysWhetherSame rules None old new Clear = AllowSame rules old new
SaysWhetherSame rules None old new Remark = Differ rules old new
SaysWhetherSame rules (Some way) old new Clear = NoneChanges rules way old new
SaysWhetherSame rules (Some way) old new Remark = SomeChanges rules way old new

-- and so is it of the lists with these texts, which mosquitto takes
pub record IsCompared (rules : Rules) (only : Option Way) (old new : List ℕ)
    (outcome : Outcome) : Type 0 where
  pub old_taken : IsTaken old
  pub new_taken : IsTaken new
  pub old_rows : List AclRow
  pub new_rows : List AclRow
  pub old_read : rows_by rules old ≡ Ok old_rows
  pub new_read : rows_by rules new ≡ Ok new_rows
  pub outcome_of : SaysWhetherSame rules only old_rows new_rows outcome

-- so many steps didn't suffice to know what a row of one of the lists changes; more are enough
abbrev pub IsGivenUpOfTwo : Rules → (old new : ListText) → (steps : ℕ) → Failure → Type 0
IsGivenUpOfTwo rules old new steps (failure.GaveUp file line others) =
    (old_rows new_rows : List Row)
    × AreRows rules old.text.now old_rows × AreRows rules new.text.now new_rows
    × (IsRowLine old old_rows file.now line ⊎ IsRowLine new new_rows file.now line)
    × (steps < enough_steps (length old_rows + length new_rows))
IsGivenUpOfTwo rules old new steps other = ⊥

-- what is shown of lists that are compared is so
abbrev pub IsComparisonFailure : Rules → (old new : ListText) → (steps : ℕ) → Failure → Type 0
IsComparisonFailure rules old new steps failure =
    IsListFailure rules old failure ⊎ IsListFailure rules new failure
    ⊎ IsGivenUpOfTwo rules old new steps failure
