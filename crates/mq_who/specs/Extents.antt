-- How much of what a filter matches the clients of a class may read or write.
use Rattle.std.specs.Prelude.{◌≡◌, ℕ, Bool, true, false, List, ◌&&◌, Option}
use Rattle.mq_topic.specs.Texts.{is_name}
use Rattle.mq_acl.specs.AccessLists.{allow_by}
use Rattle.mq_acl.specs.Refused.{refuses}
use Rattle.mq_acl.specs.Views.{row_views}
use Rattle.mq_acl.specs.declared.access.Direction.{Direction}
use Rattle.mq_acl.specs.declared.row.Row.{Row}
use Rattle.mq_acl.specs.declared.rules.Rules.{Rules}
use Rattle.mq_witness.specs.Clients.{can_be_id}
use Rattle.mq_differences.specs.Classes.{can_be_user}
use Rattle.mq_differences.specs.Differences.{same_class, same_direction}
use Rattle.mq_differences.specs.declared.class.Class.{Class}
use Rattle.mq_differences.specs.declared.difference.Difference.{Difference}
use Rattle.mq_who.specs.Who.{is_asked, is_case, is_left_out, is_member}
use Rattle.mq_who.specs.declared.extent.Extent.{Extent}
use Rattle.mq_who.specs.declared.extent.Extent.TheVariants.{Every, Part, Nothing, Unmatched}

-- a client of the class and a topic that the filter matches for it, which the list allows it or
-- doesn't
pub record HasCase (rules : Rules) (allows : Bool) (rows : List Row) (wanted : List ℕ)
    (class : Class) (direction : Direction) : Type 0 where
  pub client : List ℕ
  pub user : Option (List ℕ)
  pub topic : List ℕ
  pub client_fits : can_be_id client ≡ true
  pub user_fits : can_be_user user ≡ true
  pub valid : is_name topic ≡ true
  pub member : is_member (row_views rows) user class ≡ true
  pub case : is_case rules allows (row_views rows) wanted client user topic direction ≡ true

-- the list allows each client of the class each topic that the filter matches for it, or none; of
-- what is to be allowed, nothing is asked about topics that the broker refuses by itself, nor about
-- clients that are left out
abbrev pub AllAre : Rules → (allows : Bool) → List Row → (wanted : List ℕ) → Class → Direction
    → Type 0
AllAre rules allows rows wanted class direction = (client topic : List ℕ)
    (user : Option (List ℕ)) → can_be_id client ≡ true → can_be_user user ≡ true
    → (allows && is_left_out rules (row_views rows) client user) ≡ false → is_name topic ≡ true
    → (allows && refuses rules direction topic) ≡ false
    → is_member (row_views rows) user class ≡ true → is_asked rules wanted client user topic ≡ true
    → allow_by rules (row_views rows) client user topic direction ≡ allows

-- the filter matches no topic for the clients of the class that aren't left out, of those that the
-- broker doesn't refuse by itself
abbrev pub NoneMatched : Rules → List Row → (wanted : List ℕ) → Class → Direction → Type 0
NoneMatched rules rows wanted class direction = (client topic : List ℕ) (user : Option (List ℕ))
    → can_be_id client ≡ true → can_be_user user ≡ true
    → is_left_out rules (row_views rows) client user ≡ false
    → is_name topic ≡ true → refuses rules direction topic ≡ false
    → is_member (row_views rows) user class ≡ true
    → is_asked rules wanted client user topic ≡ false

-- of the topics that the filter matches for the clients of the class: all, of which there is one;
-- one and not another; none, though there is one; or there is none
abbrev pub IsExtent : Rules → List Row → (wanted : List ℕ) → Class → Direction → Extent → Type 0
IsExtent rules rows wanted class direction Every =
    HasCase rules true rows wanted class direction × AllAre rules true rows wanted class direction
IsExtent rules rows wanted class direction Part =
    HasCase rules true rows wanted class direction × HasCase rules false rows wanted class direction
IsExtent rules rows wanted class direction Nothing =
    HasCase rules false rows wanted class direction × AllAre rules false rows wanted class direction
IsExtent rules rows wanted class direction Unmatched = NoneMatched rules rows wanted class direction

-- the difference is of the class and the direction
abbrev pub is_about : Class → Direction → Difference → Bool
is_about class direction d = same_class d.class class && same_direction d.direction direction

-- where the list allows some, and doesn't allow some
abbrev pub extent_of : (some others : Bool) → Extent
extent_of true false = Every
extent_of true true = Part
extent_of false true = Nothing
extent_of false false = Unmatched
