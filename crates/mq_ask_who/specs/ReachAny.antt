-- Whether a client with any id can be sent something that a filter matches.
use Rattle.std.specs.Prelude.{◌≡◌, ◌⊎◌, ℕ, true, false, List, Option, Some, None, Ok}
use Rattle.mq_topic.specs.Texts.{is_name}
use Rattle.mq_acl.specs.AccessLists.{allow_by}
use Rattle.mq_acl.specs.Lines.{Read}
use Rattle.mq_acl.specs.Rows.{AclRow, rows_by}
use Rattle.mq_acl.specs.Views.{row_views}
use Rattle.mq_acl.specs.declared.access.Direction.TheVariants.{Reading}
use Rattle.mq_acl.specs.declared.row.Row.{Row}
use Rattle.mq_acl.specs.declared.rules.Rules.{Rules}
use Rattle.mq_witness.specs.Clients.{can_be_id}
use Rattle.mq_witness.specs.Rows.{is_user_of}
use Rattle.mq_differences.specs.Classes.{can_be_user}
use Rattle.mq_differences.specs.declared.difference.Difference.{Difference}
use Rattle.mq_expect.specs.Expectations.{Claim, Whom, Anonymous, User}
use Rattle.mq_expect.specs.declared.expectation.Holds.TheVariants.{Never}
use Rattle.mq_who.specs.Claims.{IsAgainst}
use Rattle.mq_who.specs.Who.{is_asked, is_case}
use Rattle.mq_print.specs.declared.list.ListText.{ListText}
use Rattle.mq_ask.specs.Lists.{AreRows}
use Rattle.mq_ask.specs.Failures.{IsListFailure}
use Rattle.mq_ask_who.specs.Who.{IsWhoFailure}
use Rattle.mq_ask.specs.declared.failure.Failure.{Failure}
use Rattle.mq_ask.specs.declared.failure.Failure.TheVariants as failure
use Rattle.mq_ask.specs.declared.outcome.Outcome.{Outcome}
use Rattle.mq_ask.specs.declared.outcome.Outcome.TheVariants.{Clear, Remark}

-- some client of this user name, or without one, may read a topic that the filter matches
pub record AnyMayRead (rules : Rules) (rows : List AclRow) (user : Option (List ℕ))
    (wanted : List ℕ) : Type 0 where
  pub client : List ℕ
  pub topic : List ℕ
  pub client_fits : can_be_id client ≡ true
  pub user_fits : can_be_user user ≡ true
  pub valid : is_name topic ≡ true
  pub case : is_case rules true rows wanted client user topic Reading ≡ true

-- or none may, of those that a broker can have
abbrev pub NoneMayRead : Rules → List AclRow → (user : Option (List ℕ)) → (wanted : List ℕ)
    → Type 0
NoneMayRead rules rows user wanted = (client topic : List ℕ) → can_be_id client ≡ true
    → can_be_user user ≡ true → is_name topic ≡ true
    → is_asked rules wanted client user topic ≡ true
    → allow_by rules rows client user topic Reading ≡ false

abbrev pub SaysWhetherAny : Rules → List AclRow → (user : Option (List ℕ)) → (wanted : List ℕ)
    → Outcome → Type 0
SaysWhetherAny rules rows user wanted Clear = NoneMayRead rules rows user wanted
SaysWhetherAny rules rows user wanted Remark = AnyMayRead rules rows user wanted

-- and so is it of the list with this text
pub record IsReachedByAny (rules : Rules) (text : List ℕ) (user : Option (List ℕ))
    (wanted : List ℕ) (outcome : Outcome) : Type 0 where
  pub rows : List AclRow
  pub read : rows_by rules text ≡ Ok rows
  pub shown : SaysWhetherAny rules rows user wanted outcome

-- ---- how it is found
abbrev pub whom_for : (user : Option (List ℕ)) → Whom
whom_for None = Anonymous
whom_for (Some name) = User name

-- that none of them may
abbrev pub claim_about : (user : Option (List ℕ)) → (wanted : List ℕ) → Claim
claim_about user wanted = record {
  whom = whom_for user;
  holds = Never;
  access = Read;
  topics = wanted;
  except = None;
}

-- none of them may; or this client may read this topic, by the line of the rows that is shown
abbrev pub IsFound : Rules → List Row → (user : Option (List ℕ)) → (wanted : List ℕ)
    → Option Difference → Type 0
IsFound rules rows user wanted None = NoneMayRead rules (row_views rows) user wanted
IsFound rules rows user wanted (Some d) = IsAgainst rules true rows (claim_about user wanted) d

-- and so is it of the list with this text
pub record IsFoundIn (rules : Rules) (text : List ℕ) (user : Option (List ℕ)) (wanted : List ℕ)
    (found : Option Difference) : Type 0 where
  pub rows : List Row
  pub are_rows : AreRows rules text rows
  pub shown : IsFound rules rows user wanted found

-- no line of the list is for the user
abbrev pub IsUserFailure : Rules → ListText → (user : Option (List ℕ)) → Failure → Type 0
IsUserFailure rules list user (failure.NoUser file name) =
    (file.now ≡ list.file.now) × (user ≡ Some name.now)
    × ((rows : List Row) × AreRows rules list.text.now rows
    × (is_user_of name.now (row_views rows) ≡ false))
IsUserFailure rules list user other = ⊥

-- what is shown is so
abbrev pub IsAnyFailure : Rules → ListText → (user : Option (List ℕ)) → (wanted : List ℕ)
    → (steps : ℕ) → Failure → Type 0
IsAnyFailure rules list user wanted steps failure =
    (IsListFailure rules list failure ⊎ IsWhoFailure rules list wanted steps failure)
    ⊎ IsUserFailure rules list user failure
