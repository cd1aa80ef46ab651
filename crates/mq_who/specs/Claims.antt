-- Whether a list keeps to what is expected of it.
use Rattle.std.specs.Prelude.{◌≡◌, ℕ, Bool, true, false, List, ◌&&◌, ◌⊎◌, not, Option, Some, None, Contains}
use denote.Ref.{Bor}
use Rattle.std.specs.List.{list_all, list_any}
use Rattle.std.specs.Str.{bytes_eq}
use Rattle.std.specs.Prelude.{map, string_bytes}
use Rattle.mq_topic.specs.Texts.{is_name}
use Rattle.mq_acl.specs.Access.{grants}
use Rattle.mq_acl.specs.AccessLists.{allow_by}
use Rattle.mq_acl.specs.Refused.{refuses}
use Rattle.mq_acl.specs.Rows.{AclRow}
use Rattle.mq_acl.specs.Views.{row_views}
use Rattle.mq_acl.specs.declared.access.Direction.{Direction}
use Rattle.mq_acl.specs.declared.row.Row.{Row}
use Rattle.mq_acl.specs.declared.rules.Rules.{Rules}
use Rattle.mq_witness.specs.Clients.{can_be_id}
use Rattle.mq_witness.specs.Rows.{is_user_of}
use Rattle.mq_differences.specs.Classes.{can_be_user, user_of}
use Rattle.mq_differences.specs.Differences.{same_direction}
use Rattle.mq_differences.specs.declared.class.Class.{Class}
use Rattle.mq_differences.specs.declared.class.Class.TheVariants as classes
use Rattle.mq_differences.specs.declared.difference.Difference.{Difference}
use Rattle.mq_expect.specs.Expectations.{Claim, Whom, Anyone, Anonymous, Others, User, excepted}
use Rattle.mq_expect.specs.declared.expectation.Holds.{Holds}
use Rattle.mq_expect.specs.declared.expectation.Holds.TheVariants.{Every, AtLeastOne, Never}
use Rattle.mq_expect.specs.Views.{whom_view}
use Rattle.mq_expect.specs.declared.expectation.Whom.{Whom as Named}
use Rattle.mq_who.specs.Who.{IsReal, is_asked, is_case, is_left_out}
use Rattle.mq_who.specs.declared.judge.Judgement.{Judgement}
use Rattle.mq_who.specs.declared.judge.Judgement.TheVariants as judged

-- the client of this user name, or without one, is one of these
abbrev pub is_one : List AclRow → Option (List ℕ) → Whom → Bool
is_one rows user Anyone = true
is_one rows None Anonymous = true
is_one rows (Some user) Anonymous = false
is_one rows None Others = false
is_one rows (Some user) Others = not (is_user_of user rows)
is_one rows None (User name) = false
is_one rows (Some user) (User name) = bytes_eq user name

-- all of it is to be allowed
abbrev pub is_every : Holds → Bool
is_every Every = true
is_every AtLeastOne = false
is_every Never = false

-- something is expected of the client in this direction: it is one of those that are meant, and
-- none of those that are excepted
abbrev pub is_claimed : List AclRow → Claim → Option (List ℕ) → Direction → Bool
is_claimed rows claim user direction =
    is_one rows user claim.whom && not (list_any (is_one rows user) (excepted claim.except))
    && grants direction claim.access

-- the list allows all of it, or none; of what is to be allowed, nothing is asked about topics that
-- the broker refuses by itself, nor about clients that are left out
abbrev pub KeepsTo : Rules → (allows : Bool) → List Row → Claim → Type 0
KeepsTo rules allows rows claim = (direction : Direction) (client topic : List ℕ)
    (user : Option (List ℕ)) → can_be_id client ≡ true → can_be_user user ≡ true
    → (allows && is_left_out rules (row_views rows) client user) ≡ false → is_name topic ≡ true
    → (allows && refuses rules direction topic) ≡ false
    → is_claimed (row_views rows) claim user direction ≡ true
    → is_asked rules claim.topics client user topic ≡ true
    → allow_by rules (row_views rows) client user topic direction ≡ allows

-- the list allows some of it in this direction
pub record AllowsOne (rules : Rules) (rows : List Row) (claim : Claim) (direction : Direction)
    : Type 0 where
  pub client : List ℕ
  pub user : Option (List ℕ)
  pub topic : List ℕ
  pub client_fits : can_be_id client ≡ true
  pub user_fits : can_be_user user ≡ true
  pub valid : is_name topic ≡ true
  pub claimed : is_claimed (row_views rows) claim user direction ≡ true
  pub case : is_case rules true (row_views rows) claim.topics client user topic direction ≡ true

-- or none
abbrev pub AllowsNone : Rules → List Row → Claim → Direction → Type 0
AllowsNone rules rows claim direction = (client topic : List ℕ) (user : Option (List ℕ))
    → can_be_id client ≡ true → can_be_user user ≡ true
    → is_name topic ≡ true → is_claimed (row_views rows) claim user direction ≡ true
    → is_asked rules claim.topics client user topic ≡ true
    → allow_by rules (row_views rows) client user topic direction ≡ false

-- what is expected of the list is so
abbrev pub IsKept : Rules → List Row → Claim → Holds → Type 0
IsKept rules rows claim Every = KeepsTo rules true rows claim
IsKept rules rows claim Never = KeepsTo rules false rows claim
IsKept rules rows claim AtLeastOne = (direction : Direction) → grants direction claim.access ≡ true
    → AllowsOne rules rows claim direction

-- it isn't: of a client of which it is expected this is so, and the list doesn't allow it, or does
pub record IsAgainst (rules : Rules) (allows : Bool) (rows : List Row) (claim : Claim)
    (d : Difference) : Type 0 where
  pub real : IsReal rules allows rows claim.topics d
  pub claimed : is_claimed (row_views rows) claim (user_of d.class) d.direction ≡ true

abbrev pub IsBroken : Rules → List Row → Claim → Holds → Difference → Type 0
IsBroken rules rows claim Every d = IsAgainst rules false rows claim d
IsBroken rules rows claim Never d = IsAgainst rules true rows claim d
IsBroken rules rows claim AtLeastOne d = ⊥

-- none may what one at least is expected to
abbrev pub IsMissing : Rules → List Row → Claim → Holds → Direction → Type 0
IsMissing rules rows claim AtLeastOne direction =
    (grants direction claim.access ≡ true) × AllowsNone rules rows claim direction
IsMissing rules rows claim how direction = ⊥

-- ---- what is said
-- no line names a user that the claim means or excepts
abbrev pub IsUnnamed : List Row → Claim → Bor (List ℕ) → Type 0
IsUnnamed rows claim name = (is_user_of name.now (row_views rows) ≡ false)
    × ((claim.whom ≡ User name.now) ⊎ Contains (excepted claim.except) (User name.now))

-- each client is to be allowed what the broker refuses by itself: the filter, read as a topic, is
-- so
abbrev pub wants_refused : Rules → Claim → Direction → Bool
wants_refused rules claim direction =
    is_every claim.holds && grants direction claim.access && refuses rules direction claim.topics

abbrev pub IsRefused : Rules → Claim → Direction → Type 0
IsRefused rules claim direction = wants_refused rules claim direction ≡ true

abbrev pub TakesAll : Rules → Claim → Type 0
TakesAll rules claim = (direction : Direction) → wants_refused rules claim direction ≡ false

-- what is said of the claim is so
abbrev pub IsJudgement : Rules → List Row → Claim → Judgement → Type 0
IsJudgement rules rows claim judged.Holds =
    TakesAll rules claim × IsKept rules rows claim claim.holds
IsJudgement rules rows claim (judged.Fails d) = IsBroken rules rows claim claim.holds d
IsJudgement rules rows claim (judged.NoneMay direction) =
    IsMissing rules rows claim claim.holds direction
IsJudgement rules rows claim (judged.Unnamed user) = IsUnnamed rows claim user
IsJudgement rules rows claim (judged.Refused direction) = IsRefused rules claim direction

-- ---- by classes
-- the clients of the class are among these
abbrev pub has_class : Class → Whom → Bool
has_class class Anyone = true
has_class classes.Anonymous Anonymous = true
has_class (classes.User name) Anonymous = false
has_class (classes.Others name) Anonymous = false
has_class classes.Anonymous Others = false
has_class (classes.User name) Others = false
has_class (classes.Others name) Others = true
has_class classes.Anonymous (User other) = false
has_class (classes.User name) (User other) = bytes_eq (string_bytes name) other
has_class (classes.Others name) (User other) = false

-- the clients that it is of are among those that are meant, and it is of a direction that is
abbrev pub is_meant : Claim → (others : List Named) → Difference → Bool
is_meant claim others d =
    has_class d.class claim.whom && not (list_any (λ w. has_class d.class (whom_view w)) others)
    && grants d.direction claim.access

-- the list names the user, if it is one
abbrev pub is_known : List AclRow → Whom → Bool
is_known rows Anyone = true
is_known rows Anonymous = true
is_known rows Others = true
is_known rows (User name) = is_user_of name rows

abbrev pub is_meant_in : Claim → (others : List Named) → Direction → Difference → Bool
is_meant_in claim others direction d =
    is_meant claim others d && same_direction d.direction direction

-- all whom the claim means are known, and these are excepted
pub record AreOthers (rows : List Row) (claim : Claim) (others : List Named) : Type 0 where
  pub are : excepted claim.except ≡ map whom_view others
  pub whom_known : is_known (row_views rows) claim.whom ≡ true
  pub others_known : list_all (λ w. is_known (row_views rows) (whom_view w)) others ≡ true

-- none of what is listed is meant, or one is
abbrev pub IsNone : Rules → (allows : Bool) → List Row → Claim → Judgement → Type 0
IsNone rules allows rows claim judged.Holds = KeepsTo rules (not allows) rows claim
IsNone rules allows rows claim (judged.Fails d) = IsAgainst rules allows rows claim d
IsNone rules allows rows claim (judged.NoneMay direction) = ⊥
IsNone rules allows rows claim (judged.Unnamed user) = ⊥
IsNone rules allows rows claim (judged.Refused direction) = ⊥

-- in each direction one is meant, or in one of them none is
abbrev pub IsOne : Rules → List Row → Claim → Judgement → Type 0
IsOne rules rows claim judged.Holds = (direction : Direction) → grants direction claim.access ≡ true
    → AllowsOne rules rows claim direction
IsOne rules rows claim (judged.Fails d) = ⊥
IsOne rules rows claim (judged.NoneMay direction) =
    (grants direction claim.access ≡ true) × AllowsNone rules rows claim direction
IsOne rules rows claim (judged.Unnamed user) = ⊥
IsOne rules rows claim (judged.Refused direction) = ⊥
