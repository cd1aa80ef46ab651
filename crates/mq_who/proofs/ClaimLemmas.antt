-- Whether a list keeps to what is expected of it.
use Rattle.std.proofs.Common.{◌≡◌, ℕ, Bool, true, false, not, ◌&&◌, ◌||◌, cond, List, [], ◌∷◌}
use Rattle.std.proofs.Common.{Option, Some, None, All, get_or, refl, ap, sym, ◌∙◌, subst}
use Rattle.std.proofs.Common.{bytes_eq, string_bytes, map}
use Rattle.std.specs.Prelude.{find}
use Rattle.std.specs.List.{list_all, list_any}
use Rattle.std.proofs.lemmas.Bool.{and_parts, false_from_ne_true, not-false, not-true}
use Rattle.std.proofs.lemmas.List.Elements.{All-head, All-tail}
use Rattle.mq_topic.specs.Texts.{is_name}
use Rattle.mq_topic.proofs.ByteLemmas.{text_is}
use Rattle.mq_acl.specs.Access.{grants}
use Rattle.mq_acl.specs.AccessLists.{allow_by}
use Rattle.mq_acl.specs.Refused.{refuses}
use Rattle.mq_acl.specs.Rows.{AclRow}
use Rattle.mq_acl.specs.Views.{row_views}
use Rattle.mq_acl.specs.declared.access.Direction.{Direction}
use Rattle.mq_acl.specs.declared.access.Direction.TheVariants.{Reading, Writing}
use Rattle.mq_acl.specs.declared.row.Row.{Row}
use Rattle.mq_acl.specs.declared.rules.Rules.{Rules}
use Rattle.mq_witness.specs.Clients.{can_be_id}
use Rattle.mq_witness.specs.Roots.{same}
use Rattle.mq_witness.specs.Rows.{is_user_of}
use Rattle.mq_differences.specs.Classes.{can_be_user, is_listed, user_of}
use Rattle.mq_differences.specs.Differences.{same_direction, same_reason, same_start}
use Rattle.mq_differences.specs.Reasons.{reason_of}
use Rattle.mq_differences.specs.declared.class.Class.{Class}
use Rattle.mq_differences.specs.declared.class.Class.TheVariants as classes
use Rattle.mq_differences.specs.declared.difference.Difference.{Difference}
use Rattle.mq_differences.proofs.FirstLemmas.{first_place}
use Rattle.mq_expect.specs.Expectations.{Claim, Whom, Anyone, Anonymous, Others, User}
use Rattle.mq_expect.specs.Views.{whom_view}
use Rattle.mq_expect.specs.declared.expectation.Holds.TheVariants as holds
use Rattle.mq_expect.specs.declared.expectation.Whom.{Whom as Named}
use Rattle.mq_who.specs.Claims.{IsBroken, IsJudgement, IsKept, IsMissing, IsNone, IsOne, TakesAll}
use Rattle.mq_who.specs.declared.judge.Judgement.{Judgement}
use Rattle.mq_who.specs.declared.judge.Judgement.TheVariants as judged
use Rattle.mq_who.specs.Claims.{AllowsNone, AllowsOne, AreOthers, IsAgainst, KeepsTo, has_class}
use Rattle.mq_who.specs.Claims.{is_claimed, is_known, is_meant, is_meant_in, is_one}
use Rattle.mq_who.specs.Who.{IsListing, IsReal, is_asked, is_case, is_left_out, is_listed_in}
use Rattle.mq_who.specs.Who.{is_member}
use Rattle.mq_who.proofs.ExtentLemmas.{any_weaker, direction_is, direction_itself, open_if}

-- ---- a client and its class
or_off : (b : Bool) → (b || false) ≡ b
or_off true = refl
or_off false = refl

listed_is : (rows : List AclRow) (user : List ℕ) → is_listed rows [] user ≡ is_user_of user rows
listed_is rows user = or_off (is_user_of user rows)

-- a user that the list names, and one that it doesn't
apart : (rows : List AclRow) (user name : List ℕ) → not (is_listed rows [] user) ≡ true
    → is_user_of name rows ≡ true → bytes_eq user name ≡ false
apart rows user name out known = at (bytes_eq user name) refl
  where
    at : (b : Bool) → bytes_eq user name ≡ b → b ≡ false
    at false e = refl
    at true e = let q : false ≡ true =
        sym (not-true (is_listed rows [] user) out)
        ∙ listed_is rows user ∙ ap (λ u. is_user_of u rows) (text_is user name e) ∙ known in cc

-- the client is among these just where its class is
one_is : (rows : List AclRow) (user : Option (List ℕ)) (class : Class) (whom : Whom)
    → is_member rows user class ≡ true → is_known rows whom ≡ true
    → is_one rows user whom ≡ has_class class whom
one_is rows user class Anyone m k = refl
one_is rows None classes.Anonymous Anonymous m k = refl
one_is rows None classes.Anonymous Others m k = refl
one_is rows None classes.Anonymous (User name) m k = refl
one_is rows None (classes.User name) whom m k = absurd (let q : false ≡ true = m in cc)
one_is rows None (classes.Others name) whom m k = absurd (let q : false ≡ true = m in cc)
one_is rows (Some user) classes.Anonymous whom m k = absurd (let q : false ≡ true = m in cc)
one_is rows (Some user) (classes.User name) Anonymous m k = refl
one_is rows (Some user) (classes.User name) Others m k =
    ap not (sym (listed_is rows user)
    ∙ (and_parts (bytes_eq user (string_bytes name)) (is_listed rows [] user) m).1)
one_is rows (Some user) (classes.User name) (User other) m k =
    ap (λ t. bytes_eq t other) (text_is user (string_bytes name)
    (and_parts (bytes_eq user (string_bytes name)) (is_listed rows [] user) m).0)
one_is rows (Some user) (classes.Others name) Anonymous m k = refl
one_is rows (Some user) (classes.Others name) Others m k =
    ap not (sym (listed_is rows user)) ∙ m
one_is rows (Some user) (classes.Others name) (User other) m k = apart rows user other m k

any_is : (rows : List AclRow) (user : Option (List ℕ)) (class : Class) (others : List Named)
    → is_member rows user class ≡ true
    → list_all (λ w. is_known rows (whom_view w)) others ≡ true
    → list_any (is_one rows user) (map whom_view others)
    ≡ list_any (λ w. has_class class (whom_view w)) others
any_is rows user class [] m k = refl
any_is rows user class (w ∷ ws) m k =
    let parts = and_parts (is_known rows (whom_view w))
    (list_all (λ w. is_known rows (whom_view w)) ws) k in
    (λ i. one_is rows user class (whom_view w) m parts.0 i
    || any_is rows user class ws m parts.1 i)

-- what is expected of the client is expected of its class
claimed_is : (rows : List Row) (claim : Claim) (others : List Named) (user : Option (List ℕ))
    (class : Class) (direction : Direction) → AreOthers rows claim others
    → is_member (row_views rows) user class ≡ true
    → is_claimed (row_views rows) claim user direction
    ≡ (has_class class claim.whom && not (list_any (λ w. has_class class (whom_view w)) others)
    && grants direction claim.access)
claimed_is rows claim others user class direction o m =
    (λ i. one_is (row_views rows) user class claim.whom m o.whom_known i
    && not ((ap (list_any (is_one (row_views rows) user)) o.are
    ∙ any_is (row_views rows) user class others m o.others_known) i)
    && grants direction claim.access)

-- ---- what is found
pub found : {X : Type 0} (p : X → Bool) (P : X → Type 0) (xs : List X) (x : X) → find p xs ≡ Some x
    → All P xs → (p x ≡ true) × P x
found p P [] x e h = absurd (cc)
found p P (y ∷ ys) x e h = at (p y) refl e (All-head P y ys h) (λ f. found p P ys x f (All-tail P y ys h))
  where
    at : (b : Bool) → p y ≡ b → cond b (Some y) (find p ys) ≡ Some x → P y
        → (find p ys ≡ Some x → (p x ≡ true) × P x) → (p x ≡ true) × P x
    at true t e h f =
        let is : y ≡ x = cc in (ap p (sym is) ∙ t, subst P is h)
    at false t e h f = f e

pub found_none : {X : Type 0} (p : X → Bool) (xs : List X) → find p xs ≡ None
    → list_any p xs ≡ false
found_none p [] e = refl
found_none p (y ∷ ys) e = at (p y) e (found_none p ys)
  where
    at : (b : Bool) → cond b (Some y) (find p ys) ≡ None → (find p ys ≡ None → list_any p ys ≡ false)
        → (b || list_any p ys) ≡ false
    at true e f = absurd (cc)
    at false e f = f e

-- ---- what is meant
-- one that is listed for a client of which something is expected is meant
meant_listed : (rules : Rules) (rows : List Row) (claim : Claim) (others : List Named)
    (direction : Direction) (client : List ℕ) (user : Option (List ℕ)) (topic : List ℕ)
    (d : Difference) → AreOthers rows claim others
    → is_claimed (row_views rows) claim user direction ≡ true
    → is_listed_in rules rows direction client user topic d ≡ true
    → is_meant_in claim others direction d ≡ true
meant_listed rules rows claim others direction client user topic d o c e =
    let front = and_parts (is_member (row_views rows) user d.class
    && same_direction direction d.direction && same_start topic d.topic)
    (same_reason (reason_of rules rows client user topic direction) d.old_reason) e in
    let both = and_parts (is_member (row_views rows) user d.class
    && same_direction direction d.direction) (same_start topic d.topic) front.0 in
    let parts = and_parts (is_member (row_views rows) user d.class)
    (same_direction direction d.direction) both.0 in
    let same_way = direction_is direction d.direction parts.1 in
    let meant : is_meant claim others d ≡ true =
    ap (λ x. has_class d.class claim.whom
    && not (list_any (λ w. has_class d.class (whom_view w)) others) && grants x claim.access) same_way
    ∙ sym (claimed_is rows claim others user d.class direction o parts.0) ∙ c in
    (λ i. meant i && (ap (λ x. same_direction x direction) same_way ∙ direction_itself direction) i)

-- what is real and meant is expected
meant_claimed : (rules : Rules) (allows : Bool) (rows : List Row) (claim : Claim)
    (others : List Named) (d : Difference) → AreOthers rows claim others
    → IsReal rules allows rows claim.topics d
    → is_meant claim others d ≡ true
    → is_claimed (row_views rows) claim (user_of d.class) d.direction ≡ true
meant_claimed rules allows rows claim others d o r m =
    claimed_is rows claim others (user_of d.class) d.class d.direction o r.member ∙ m

-- where none of those of a direction is meant, the list allows none of it, or all that the broker
-- doesn't refuse by itself
none_meant : (rules : Rules) (allows : Bool) (rows : List Row) (claim : Claim)
    (others : List Named) (all : List Difference) (direction : Direction)
    → AreOthers rows claim others → IsListing rules allows rows claim.topics all
    → list_any (is_meant_in claim others direction) all ≡ false
    → (client topic : List ℕ) (user : Option (List ℕ)) → can_be_id client ≡ true
    → can_be_user user ≡ true
    → (not allows && is_left_out rules (row_views rows) client user) ≡ false → is_name topic ≡ true
    → (not allows && refuses rules direction topic) ≡ false
    → is_claimed (row_views rows) claim user direction ≡ true
    → is_asked rules claim.topics client user topic ≡ true
    → allow_by rules (row_views rows) client user topic direction ≡ not allows
none_meant rules allows rows claim others all direction o l none client topic user c u q v t k a =
    at allows (allow_by rules (row_views rows) client user topic direction)
    (λ e. let some = any_weaker (is_listed_in rules rows direction client user topic)
    (is_meant_in claim others direction)
    (λ d s. meant_listed rules rows claim others direction client user topic d o k s) all
    (l.lists direction client topic user c u q v
    (λ i. not (open_if rules (row_views rows) allows client user topic direction t e i) && a i
    && e i)) in
    let q : false ≡ true = sym none ∙ some in q)
  where
    at : (b r : Bool) → (same b r ≡ true → false ≡ true) → r ≡ not b
    at true true f = absurd (let q = f refl in cc)
    at true false f = refl
    at false true f = refl
    at false false f = absurd (let q = f refl in cc)

none_in : (claim : Claim) (others : List Named) (direction : Direction) (all : List Difference)
    → list_any (is_meant claim others) all ≡ false
    → list_any (is_meant_in claim others direction) all ≡ false
none_in claim others direction all none =
    false_from_ne_true (list_any (is_meant_in claim others direction) all) (λ some.
    let q : false ≡ true = sym none
    ∙ any_weaker (is_meant_in claim others direction) (is_meant claim others)
    (λ d e. (and_parts (is_meant claim others d) (same_direction d.direction direction) e).0)
    all some in cc)

pub kept : (rules : Rules) (allows : Bool) (rows : List Row) (claim : Claim)
    (others : List Named) (all : List Difference) → AreOthers rows claim others
    → IsListing rules allows rows claim.topics all
    → find (is_meant claim others) all ≡ None → KeepsTo rules (not allows) rows claim
kept rules allows rows claim others all o l e direction client topic user c u q v t k a =
    none_meant rules allows rows claim others all direction o l
    (none_in claim others direction all (found_none (is_meant claim others) all e)) client topic user
    c u q v t k a

pub against : (rules : Rules) (allows : Bool) (rows : List Row) (claim : Claim)
    (others : List Named) (all : List Difference) (d : Difference) → AreOthers rows claim others
    → IsListing rules allows rows claim.topics all → find (is_meant claim others) all ≡ Some d
    → IsAgainst rules allows rows claim d
against rules allows rows claim others all d o l e =
    let is = found (is_meant claim others) (IsReal rules allows rows claim.topics) all d e l.real in
    record { real = is.1; claimed = meant_claimed rules allows rows claim others d o is.1 is.0 }

-- ---- at least one
pub one : (rules : Rules) (rows : List Row) (claim : Claim) (others : List Named)
    (all : List Difference) (direction : Direction) → AreOthers rows claim others
    → IsListing rules true rows claim.topics all
    → list_any (is_meant_in claim others direction) all ≡ true
    → AllowsOne rules rows claim direction
one rules rows claim others all direction o l h =
    let at = first_place (is_meant_in claim others direction) all h in
    let d = get_or all at.place at.item in
    let real = l.real at.place at.item at.in_range in
    let parts = and_parts (is_meant claim others d) (same_direction d.direction direction)
    (at.here at.item) in
    let is = direction_is d.direction direction parts.1 in
    record {
      client = string_bytes d.client;
      user = user_of d.class;
      topic = d.topic;
      client_fits = real.client_fits;
      user_fits = real.user_fits;
      valid = real.valid;
      claimed = ap (is_claimed (row_views rows) claim (user_of d.class)) is
          ∙ meant_claimed rules true rows claim others d o real parts.0;
      case = ap (is_case rules true (row_views rows) claim.topics (string_bytes d.client)
          (user_of d.class) d.topic) is ∙ real.case;
    }

-- a direction that isn't missed
pub one_unless : (rules : Rules) (rows : List Row) (claim : Claim) (others : List Named)
    (all : List Difference) (direction : Direction) → AreOthers rows claim others
    → IsListing rules true rows claim.topics all
    → (grants direction claim.access && not (list_any (is_meant_in claim others direction) all))
    ≡ false → grants direction claim.access ≡ true → AllowsOne rules rows claim direction
one_unless rules rows claim others all direction o l e g =
    one rules rows claim others all direction o l
    (not-false (list_any (is_meant_in claim others direction) all)
    (sym (ap (λ b. b && not (list_any (is_meant_in claim others direction) all)) g) ∙ e))

pub missed : (rules : Rules) (rows : List Row) (claim : Claim) (others : List Named)
    (all : List Difference) (direction : Direction) → AreOthers rows claim others
    → IsListing rules true rows claim.topics all
    → (grants direction claim.access && not (list_any (is_meant_in claim others direction) all))
    ≡ true → (grants direction claim.access ≡ true) × AllowsNone rules rows claim direction
missed rules rows claim others all direction o l e =
    let parts = and_parts (grants direction claim.access)
    (not (list_any (is_meant_in claim others direction) all)) e in (
      parts.0,
      λ client topic user c u v k a. none_meant rules true rows claim others all direction o l
          (not-true (list_any (is_meant_in claim others direction) all) parts.1) client topic user
          c u refl v refl k a,
    )

-- what a direction misses
abbrev misses : Claim → List Named → List Difference → Direction → Bool
misses claim others all direction =
    grants direction claim.access && not (list_any (is_meant_in claim others direction) all)

-- where no direction is missed
pub in_each : (rules : Rules) (rows : List Row) (claim : Claim) (others : List Named)
    (all : List Difference) → AreOthers rows claim others
    → IsListing rules true rows claim.topics all
    → misses claim others all Reading ≡ false → misses claim others all Writing ≡ false
    → (direction : Direction) → grants direction claim.access ≡ true
    → AllowsOne rules rows claim direction
in_each rules rows claim others all o l r w Reading g =
    one_unless rules rows claim others all Reading o l r g
in_each rules rows claim others all o l r w Writing g =
    one_unless rules rows claim others all Writing o l w g

-- ---- the judgement
pub every_judged : (rules : Rules) (rows : List Row) (claim : Claim) (j : Judgement)
    → TakesAll rules claim → claim.holds ≡ holds.Every
    → IsNone rules false rows claim j → IsJudgement rules rows claim j
every_judged rules rows claim judged.Holds a e n =
    (a, subst (IsKept rules rows claim) (sym e) n)
every_judged rules rows claim (judged.Fails d) a e n =
    subst (λ h. IsBroken rules rows claim h d) (sym e) n
every_judged rules rows claim (judged.NoneMay direction) a e n = absurd n
every_judged rules rows claim (judged.Unnamed user) a e n = absurd n
every_judged rules rows claim (judged.Refused direction) a e n = absurd n

pub never_judged : (rules : Rules) (rows : List Row) (claim : Claim) (j : Judgement)
    → TakesAll rules claim → claim.holds ≡ holds.Never
    → IsNone rules true rows claim j → IsJudgement rules rows claim j
never_judged rules rows claim judged.Holds a e n =
    (a, subst (IsKept rules rows claim) (sym e) n)
never_judged rules rows claim (judged.Fails d) a e n =
    subst (λ h. IsBroken rules rows claim h d) (sym e) n
never_judged rules rows claim (judged.NoneMay direction) a e n = absurd n
never_judged rules rows claim (judged.Unnamed user) a e n = absurd n
never_judged rules rows claim (judged.Refused direction) a e n = absurd n

pub one_judged : (rules : Rules) (rows : List Row) (claim : Claim) (j : Judgement)
    → TakesAll rules claim → claim.holds ≡ holds.AtLeastOne
    → IsOne rules rows claim j → IsJudgement rules rows claim j
one_judged rules rows claim judged.Holds a e n =
    (a, subst (IsKept rules rows claim) (sym e) n)
one_judged rules rows claim (judged.Fails d) a e n = absurd n
one_judged rules rows claim (judged.NoneMay direction) a e n =
    subst (λ h. IsMissing rules rows claim h direction) (sym e) n
one_judged rules rows claim (judged.Unnamed user) a e n = absurd n
one_judged rules rows claim (judged.Refused direction) a e n = absurd n
