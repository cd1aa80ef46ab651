-- How much of what a filter matches the clients of a class may.
use Rattle.std.proofs.Common.{◌≡◌, ℕ, Bool, true, false, not, ◌&&◌, List, [], Option, Some, None}
use Rattle.std.proofs.Common.{get_or, refl, ap, sym, ◌∙◌, bytes_eq, string_bytes}
use Rattle.std.specs.List.{list_any}
use Rattle.std.proofs.lemmas.Bool.{and_parts, false_from_ne_true}
use Rattle.std.proofs.lemmas.List.Folds.{list_any_at}
use Rattle.mq_topic.proofs.ByteLemmas.{text_is}
use Rattle.mq_acl.specs.AccessLists.{allow_by}
use Rattle.mq_acl.specs.Refused.{refuses}
use Rattle.mq_acl.specs.Views.{row_views}
use Rattle.mq_acl.specs.Rows.{AclRow}
use Rattle.mq_acl.specs.declared.access.Direction.{Direction}
use Rattle.mq_acl.specs.declared.access.Direction.TheVariants.{Reading, Writing}
use Rattle.mq_acl.specs.declared.row.Row.{Row}
use Rattle.mq_acl.specs.declared.rules.Rules.{Rules}
use Rattle.mq_witness.specs.Roots.{same}
use Rattle.mq_differences.specs.Classes.{is_listed, user_of}
use Rattle.mq_differences.specs.Differences.{same_class, same_direction, same_reason, same_start}
use Rattle.mq_differences.specs.Reasons.{reason_of}
use Rattle.mq_differences.specs.declared.class.Class.{Class}
use Rattle.mq_differences.specs.declared.class.Class.TheVariants.{Anonymous, User, Others}
use Rattle.mq_differences.specs.declared.difference.Difference.{Difference}
use Rattle.mq_differences.proofs.DeciderLemmas.{allowed_open}
use Rattle.mq_differences.proofs.FirstLemmas.{first_place}
use Rattle.mq_who.specs.Extents.{AllAre, HasCase, IsExtent, extent_of, is_about}
use Rattle.mq_who.specs.Who.{IsListing, is_asked, is_case, is_listed_in, is_member}

-- ---- classes
clash : (b : Bool) → b ≡ true → not b ≡ true → ⊥
clash true h n = let q : false ≡ true = n in cc
clash false h n = let q : false ≡ true = h in cc

-- two classes that a client is in are the same
class_same : (rows : List AclRow) (user : Option (List ℕ)) (a b : Class)
    → is_member rows user a ≡ true → is_member rows user b ≡ true → same_class a b ≡ true
class_same rows None Anonymous Anonymous m n = refl
class_same rows None Anonymous (User name) m n = absurd (let q : false ≡ true = n in cc)
class_same rows None Anonymous (Others name) m n = absurd (let q : false ≡ true = n in cc)
class_same rows None (User name) b m n = absurd (let q : false ≡ true = m in cc)
class_same rows None (Others name) b m n = absurd (let q : false ≡ true = m in cc)
class_same rows (Some user) Anonymous b m n = absurd (let q : false ≡ true = m in cc)
class_same rows (Some user) (User name) Anonymous m n = absurd (let q : false ≡ true = n in cc)
class_same rows (Some user) (Others name) Anonymous m n = absurd (let q : false ≡ true = n in cc)
class_same rows (Some user) (Others name) (Others other) m n = refl
class_same rows (Some user) (User name) (User other) m n =
    let is = and_parts (bytes_eq user (string_bytes name)) (is_listed rows [] user) m in
    let other_is = and_parts (bytes_eq user (string_bytes other)) (is_listed rows [] user) n in
    ap (λ t. bytes_eq t (string_bytes other)) (sym (text_is user (string_bytes name) is.0))
    ∙ other_is.0
class_same rows (Some user) (User name) (Others other) m n =
    absurd (clash (is_listed rows [] user)
    (and_parts (bytes_eq user (string_bytes name)) (is_listed rows [] user) m).1 n)
class_same rows (Some user) (Others name) (User other) m n =
    absurd (clash (is_listed rows [] user)
    (and_parts (bytes_eq user (string_bytes other)) (is_listed rows [] user) n).1 m)

-- the clients of a class are in each that is the same
class_member : (rows : List AclRow) (user : Option (List ℕ)) (a b : Class)
    → same_class a b ≡ true → is_member rows user a ≡ true → is_member rows user b ≡ true
class_member rows user Anonymous Anonymous s m = m
class_member rows user Anonymous (User name) s m = absurd (let q : false ≡ true = s in cc)
class_member rows user Anonymous (Others name) s m = absurd (let q : false ≡ true = s in cc)
class_member rows user (User name) Anonymous s m = absurd (let q : false ≡ true = s in cc)
class_member rows None (User name) (User other) s m = m
class_member rows (Some user) (User name) (User other) s m =
    ap (λ t. bytes_eq user t && is_listed rows [] user)
    (sym (text_is (string_bytes name) (string_bytes other) s)) ∙ m
class_member rows user (User name) (Others other) s m = absurd (let q : false ≡ true = s in cc)
class_member rows user (Others name) Anonymous s m = absurd (let q : false ≡ true = s in cc)
class_member rows user (Others name) (User other) s m = absurd (let q : false ≡ true = s in cc)
class_member rows None (Others name) (Others other) s m = m
class_member rows (Some user) (Others name) (Others other) s m = m

pub direction_is : (a b : Direction) → same_direction a b ≡ true → b ≡ a
direction_is Reading Reading e = refl
direction_is Reading Writing e = absurd (let q : false ≡ true = e in cc)
direction_is Writing Reading e = absurd (let q : false ≡ true = e in cc)
direction_is Writing Writing e = refl

pub direction_itself : (a : Direction) → same_direction a a ≡ true
direction_itself Reading = refl
direction_itself Writing = refl

-- ---- what is listed of a class
pub has_case : (rules : Rules) (allows : Bool) (rows : List Row) (wanted : List ℕ)
    (class : Class) (direction : Direction) (all : List Difference)
    → IsListing rules allows rows wanted all → list_any (is_about class direction) all ≡ true
    → HasCase rules allows rows wanted class direction
has_case rules allows rows wanted class direction all l h =
    let at = first_place (is_about class direction) all h in
    let d = get_or all at.place at.item in
    let real = l.real at.place at.item at.in_range in
    let about = and_parts (same_class d.class class) (same_direction d.direction direction)
    (at.here at.item) in
    record {
      client = string_bytes d.client;
      user = user_of d.class;
      topic = d.topic;
      client_fits = real.client_fits;
      user_fits = real.user_fits;
      valid = real.valid;
      member = class_member (row_views rows) (user_of d.class) d.class class about.0 real.member;
      case = ap (λ e. is_case rules allows (row_views rows) wanted (string_bytes d.client)
          (user_of d.class) d.topic e) (direction_is d.direction direction about.1) ∙ real.case;
    }

-- one that is listed for a client of the class is of the class
about_listed : (rules : Rules) (rows : List Row) (class : Class) (direction : Direction)
    (client : List ℕ) (user : Option (List ℕ)) (topic : List ℕ) (d : Difference)
    → is_member (row_views rows) user class ≡ true
    → is_listed_in rules rows direction client user topic d ≡ true
    → is_about class direction d ≡ true
about_listed rules rows class direction client user topic d m e =
    let front = and_parts (is_member (row_views rows) user d.class
    && same_direction direction d.direction && same_start topic d.topic)
    (same_reason (reason_of rules rows client user topic direction) d.old_reason) e in
    let both = and_parts (is_member (row_views rows) user d.class
    && same_direction direction d.direction) (same_start topic d.topic) front.0 in
    let parts = and_parts (is_member (row_views rows) user d.class)
    (same_direction direction d.direction) both.0 in
    rw (class_same (row_views rows) user d.class class parts.0 m)
    (ap (λ x. same_direction x direction) (direction_is direction d.direction parts.1)
    ∙ direction_itself direction)

pub any_weaker : {X : Type 0} (p q : X → Bool) → ((x : X) → p x ≡ true → q x ≡ true) → (xs : List X)
    → list_any p xs ≡ true → list_any q xs ≡ true
any_weaker p q step xs h =
    let at = first_place p xs h in
    list_any_at q xs at.place at.item at.in_range
    (step (get_or xs at.place at.item) (at.here at.item))

-- what is allowed the broker doesn't refuse by itself
pub open_if : (rules : Rules) (rows : List AclRow) (allows : Bool) (client : List ℕ)
    (user : Option (List ℕ)) (topic : List ℕ) (direction : Direction)
    → (not allows && refuses rules direction topic) ≡ false
    → same allows (allow_by rules rows client user topic direction) ≡ true
    → refuses rules direction topic ≡ false
open_if rules rows true client user topic direction t e =
    allowed_open rules rows client user topic direction e
open_if rules rows false client user topic direction t e = t

-- where none is listed there is none
none_is : (rules : Rules) (allows : Bool) (rows : List Row) (wanted : List ℕ) (class : Class)
    (direction : Direction) (all : List Difference) → IsListing rules allows rows wanted all
    → list_any (is_about class direction) all ≡ false
    → AllAre rules (not allows) rows wanted class direction
none_is rules allows rows wanted class direction all l none client topic user c u q v t m a =
    at allows (allow_by rules (row_views rows) client user topic direction)
    (λ e. let some = any_weaker (is_listed_in rules rows direction client user topic)
    (is_about class direction)
    (λ d k. about_listed rules rows class direction client user topic d m k) all
    (l.lists direction client topic user c u q v
    (λ i. not (open_if rules (row_views rows) allows client user topic direction t e i) && a i
    && e i)) in
    let q : false ≡ true = sym none ∙ some in q)
  where
    at : (b r : Bool) → (same b r ≡ true → false ≡ true) → r ≡ not b
    at true true f = absurd (let q = f refl in cc)
    at true false f = refl
    at false true f = refl
    at false false f = absurd (let q = f refl in cc)

pub extent_is : (rules : Rules) (rows : List Row) (wanted : List ℕ) (class : Class)
    (direction : Direction) (granted refused : List Difference) (some others : Bool)
    → IsListing rules true rows wanted granted → IsListing rules false rows wanted refused
    → list_any (is_about class direction) granted ≡ some
    → list_any (is_about class direction) refused ≡ others
    → IsExtent rules rows wanted class direction (extent_of some others)
extent_is rules rows wanted class direction granted refused true false g r e f = (
  has_case rules true rows wanted class direction granted g e,
  none_is rules false rows wanted class direction refused r f,
)
extent_is rules rows wanted class direction granted refused true true g r e f = (
  has_case rules true rows wanted class direction granted g e,
  has_case rules false rows wanted class direction refused r f,
)
extent_is rules rows wanted class direction granted refused false true g r e f = (
  has_case rules false rows wanted class direction refused r f,
  none_is rules true rows wanted class direction granted g e,
)
extent_is rules rows wanted class direction granted refused false false g r e f =
    λ client topic user c u k v t m. false_from_ne_true (is_asked rules wanted client user topic)
    (λ a. let q : false ≡ true =
    sym (none_is rules true rows wanted class direction granted g e client topic user c u refl v
    refl m a)
    ∙ none_is rules false rows wanted class direction refused r f client topic user c u k v t m
    a
    in cc)
