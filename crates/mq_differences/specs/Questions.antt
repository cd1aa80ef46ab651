-- What clients of one class may do by one list, and may not by another.
use Rattle.std.specs.Prelude.{◌≡◌, false, ◌<◌, ◌==◌, ℕ, Bool, true, List, [], ◌∷◌, ◌++◌, ◌&&◌, All}
use Rattle.std.specs.Prelude.{length, take, slice_index_or, Option, Some, None, String, Contains, ⊤}
use Rattle.std.specs.declared.alloc.Global.{Global}
use Rattle.std.specs.List.{filter, list_any}
use Rattle.std.specs.Option.{option_map}
use Rattle.mq_topic.specs.Texts.{is_name}
use Rattle.mq_acl.specs.Access.{begins_with_dollar, is_deny}
use Rattle.mq_acl.specs.Rows.{AclRow}
use Rattle.mq_acl.specs.Views.{line_views, owner_view, row_view, row_views}
use Rattle.mq_acl.specs.declared.access.Direction.{Direction}
use Rattle.mq_acl.specs.declared.row.Row.{Row}
use Rattle.mq_acl.specs.declared.rules.Rules.{Rules}
use Rattle.mq_witness.specs.Asked.{AskedRows, IsListed}
use Rattle.mq_witness.specs.Names.{refused_of}
use Rattle.mq_witness.specs.Ruled.{IsAskedOf, decides_by}
use Rattle.mq_shapes.specs.declared.clients.Clients.{Clients}
use Rattle.mq_shapes.specs.declared.clients.Clients.TheVariants as clients
use Rattle.mq_witness.specs.declared.topics.Topics.{Topics}
use Rattle.mq_witness.specs.declared.topics.Topics.TheVariants.{Open}
use Rattle.mq_differences.specs.ByOwner.{IsGrouped, is_for}
use Rattle.mq_differences.specs.Differences.{is_change, is_shown_of}
use Rattle.mq_differences.specs.Faults.{rows_of as rows_on}
use Rattle.mq_differences.specs.Marks.{ArePlaced, IsKept, rows_of, views_of}
use Rattle.mq_differences.specs.Ranks.{is_judge, judges, rank}
use Rattle.mq_differences.specs.declared.by_owner.ByOwner.{ByOwner}
use Rattle.mq_differences.specs.declared.class.Class.{Class}
use Rattle.mq_differences.specs.declared.class.Class.TheVariants as classes
use Rattle.mq_differences.specs.declared.difference.Difference.{Difference}
use Rattle.mq_differences.specs.declared.reason.Reason.{Reason}
use Rattle.mq_differences.specs.declared.reason.Reason.TheVariants.{Deny, Grant, NoGrant}
use Rattle.mq_differences.specs.declared.fault.ComparisonFault.{ComparisonFault}
use Rattle.mq_differences.specs.declared.fault.ComparisonFault.TheVariants as comparison
use Rattle.mq_differences.specs.declared.fault.Side.{Side}
use Rattle.mq_differences.specs.declared.fault.Side.TheVariants.{Old, New}
use Rattle.mq_differences.specs.declared.gains.Question.{Question}
use Rattle.mq_differences.specs.declared.gains.Gain.{Gain}
use Rattle.mq_differences.specs.declared.judges.Judges.{Judges}
use Rattle.mq_differences.specs.declared.lists.Lists.{Lists}
use Rattle.mq_differences.specs.declared.marks.Marked.{Marked}
use Rattle.mq_differences.specs.declared.way.Way.{Way}
use Rattle.mq_differences.specs.declared.way.Way.TheVariants.{Gained, Lost}

-- ---- both lists
-- all rows of a list, by whom they are for, each with whether the other has it too
pub record IsList (rows others : List Row) (by_owner : ByOwner) : Type 0 where
  pub all : List Marked
  pub are : rows_of all ≡ rows
  pub kept : All (IsKept (row_views others)) all
  pub placed : ArePlaced all
  pub grouped : IsGrouped all by_owner

-- the rows of both, and the questions that can be asked of them
pub record AreLists (lists : Lists) : Type 0 where
  pub rules : lists.rules ≡ lists.asked.rules
  pub asked : lists.asked.rows ≡ row_views lists.old.now ++ row_views lists.new.now
  pub old_rows : IsList lists.old.now lists.new.now lists.old_rows
  pub new_rows : IsList lists.new.now lists.old.now lists.new_rows

-- there was no memory, or the steps, which are limited, don't suffice for a row of the lists
abbrev pub IsStop : Lists → ComparisonFault → Type 0
IsStop lists comparison.Memory = ⊤
IsStop lists (comparison.OldLine line) = ⊥
IsStop lists (comparison.NewLine line) = ⊥
IsStop lists (comparison.OldMark line) = ⊥
IsStop lists (comparison.NewMark line) = ⊥
IsStop lists (comparison.GaveUp side line others) =
    Contains (line_views (rows_on lists.old.now lists.new.now side)) line
    × (lists.limited ≡ true)

-- ---- the rows for some clients, and those that decide
abbrev pub rows_for : Clients → List Row → List Row
rows_for clients rows = filter (λ r. is_for clients (owner_view r.owner)) rows

-- of a list the rows for these clients
pub record AreRowsFor (rows others : List Row) (clients : Clients) (all : List Marked) : Type 0 where
  pub are : rows_of all ≡ rows_for clients rows
  pub kept : All (IsKept (row_views others)) all

abbrev pub ranked_marks : Rules → Direction → ℕ → List Marked → List Marked
ranked_marks rules direction place all = filter (λ m. is_judge direction (row_view m.row.now)
    && (rank rules (row_view m.row.now) == place)) all

-- those of these rows that decide about the direction, in their order
abbrev pub judging : Rules → Direction → List Marked → List Marked
judging rules direction all = ranked_marks rules direction 0 all
    ++ (ranked_marks rules direction 1 all
    ++ (ranked_marks rules direction 2 all ++ ranked_marks rules direction 3 all))

-- each row that denies has its place among these
abbrev pub HasDenies : List Marked → List ℕ → Type 0
HasDenies all denies = (place : ℕ) (m : Marked) → place < length all
    → is_deny (row_view (slice_index_or all place m).row.now).access ≡ true → Contains denies place

-- of a list the rows for these clients that decide about the direction, in their order
pub record AreJudges (rules : Rules) (rows others : List Row) (clients : Clients)
    (direction : Direction) (all : Judges) : Type 0 where
  pub are : rows_of all.rows.items ≡ judges rules direction (rows_for clients rows)
  pub kept : All (IsKept (row_views others)) all.rows.items
  pub denies : HasDenies all.rows.items all.denies.items

-- ---- a question
-- the list that doesn't allow what is gained or lost, and the one that does
abbrev pub rows_without : Way → (old new : List Row) → List Row
rows_without Gained old new = old
rows_without Lost old new = new

abbrev pub rows_with : Way → (old new : List Row) → List Row
rows_with Gained old new = new
rows_with Lost old new = old

abbrev pub side_with : Way → Side
side_with Gained = New
side_with Lost = Old

abbrev pub asked_in : Question → AskedRows
asked_in q = q.lists.now.asked

abbrev pub rules_in : Question → Rules
rules_in q = q.lists.now.asked.rules

-- what is known of a question
pub record IsQuestion (q : Question) : Type 0 where
  pub rules : q.lists.now.rules ≡ rules_in q
  pub asked : (asked_in q).rows ≡ row_views q.lists.now.old.now ++ row_views q.lists.now.new.now
  pub listed : IsListed (asked_in q) q.clients
  pub from : AreJudges (rules_in q) (rows_without q.way q.lists.now.old.now q.lists.now.new.now)
      (rows_with q.way q.lists.now.old.now q.lists.now.new.now) q.clients q.direction q.from.now
  pub to : AreJudges (rules_in q) (rows_with q.way q.lists.now.old.now q.lists.now.new.now)
      (rows_without q.way q.lists.now.old.now q.lists.now.new.now) q.clients q.direction q.to.now

-- a client that is asked about, and one of these topics
pub record IsPoint (topics : Topics) (asked : AskedRows) (clients : Clients) (client : List ℕ)
    (user : Option (List ℕ)) (topic : List ℕ) : Type 0 where
  pub is_asked : IsAskedOf asked clients client user
  pub valid : is_name topic ≡ true
  pub taken : refused_of asked.rules topics topic ≡ false

-- the topics of a question: what the broker refuses by itself is neither gained nor lost
abbrev pub open_in : Question → Topics
open_in q = Open q.direction

-- no topic of these clients is concerned by all of the rows
abbrev pub NeverMeet : Question → (must : List AclRow) → Type 0
NeverMeet q must = (client topic : List ℕ) (user : Option (List ℕ))
    → IsPoint (open_in q) (asked_in q) q.clients client user topic
    → decides_by (rules_in q) client user topic must [] ≡ false

abbrev pub is_shown : Question → List ℕ → Option (List ℕ) → List ℕ → Difference → Bool
is_shown q client user topic d = is_shown_of (rules_in q) q.lists.now.old.now q.lists.now.new.now
    q.way q.direction client user topic d

-- where these rows concern it and those don't, it is shown
abbrev pub AreShown : Question → (must cover : List AclRow) → List Difference → Type 0
AreShown q must cover shown = (client topic : List ℕ) (user : Option (List ℕ))
    → IsPoint (open_in q) (asked_in q) q.clients client user topic
    → decides_by (rules_in q) client user topic must cover ≡ true
    → list_any (is_shown q client user topic) shown ≡ true

-- so it is of topics that begin with `$`, or of the others
abbrev pub AreShownOf : Bool → Question → (must cover : List AclRow) → List Difference → Type 0
AreShownOf dollar q must cover shown = (client topic : List ℕ) (user : Option (List ℕ))
    → IsPoint (open_in q) (asked_in q) q.clients client user topic → begins_with_dollar topic ≡ dollar
    → decides_by (rules_in q) client user topic must cover ≡ true
    → list_any (is_shown q client user topic) shown ≡ true

-- ---- what a grant gains
abbrev pub must_of : Option AclRow → AclRow → List AclRow
must_of None grant = grant ∷ []
must_of (Some deny) grant = deny ∷ (grant ∷ [])

-- the row stands behind those in the list
pub record IsSplit (all before : List Marked) (row : Row) : Type 0 where
  pub after : List Row
  pub is : rows_of all ≡ rows_of before ++ (row ∷ after)

-- a deny behind these decided against it, or none of all rows that decide concerns it
abbrev pub IsBefore : List Marked → List Marked → Option Row → Type 0
IsBefore all judging None = judging ≡ all
IsBefore all judging (Some deny) = IsSplit all judging deny
    × (is_deny (row_view deny).access ≡ true)

pub record IsGain (q : Question) (gain : Gain) : Type 0 where
  pub grant : IsSplit q.to.now.rows.items gain.before.now gain.grant.now
  pub grants : is_deny (row_view gain.grant.now).access ≡ false
  pub from : IsBefore q.from.now.rows.items gain.judging.now (option_map (λ r. r.now) gain.deny)

abbrev pub gain_must : Gain → List AclRow
gain_must gain = must_of (option_map (λ r. row_view r.now) gain.deny) (row_view gain.grant.now)

abbrev pub gain_cover : Gain → List AclRow
gain_cover gain = views_of gain.judging.now ++ views_of gain.before.now

-- ---- what is shown of a gain
-- the class of the clients with the user name of a witness
abbrev pub class_of : Clients → Option (String Global) → Class
class_of clients.Anonymous user = classes.Anonymous
class_of (clients.Named name) (Some user) = classes.User user
class_of (clients.Named name) None = classes.Anonymous
class_of clients.Others (Some user) = classes.Others user
class_of clients.Others None = classes.Anonymous

-- why the one list doesn't allow it
abbrev pub refused : Option Row → Reason
refused (Some deny) = Deny deny.line
refused None = NoGrant

-- what decides in the old list and in the new one
abbrev pub gain_reasons : Way → Gain → Reason × Reason
gain_reasons Gained gain =
    (refused (option_map (λ r. r.now) gain.deny), Grant gain.grant.now.line)
gain_reasons Lost gain =
    (Grant gain.grant.now.line, refused (option_map (λ r. r.now) gain.deny))

-- where its rows decide about topics of a kind, the difference is shown of it
abbrev pub IsShownBy : Bool → Question → Gain → Difference → Type 0
IsShownBy dollar q gain d = (client topic : List ℕ) (user : Option (List ℕ))
    → IsPoint (open_in q) (asked_in q) q.clients client user topic → begins_with_dollar topic ≡ dollar
    → decides_by (rules_in q) client user topic (gain_must gain) (gain_cover gain) ≡ true
    → is_shown q client user topic d ≡ true

-- ---- what is shown of a row that grants
-- it stands behind these, and is known not to be kept where it isn't
pub record IsPlaced (q : Question) (before : List Marked) (grant : Marked) : Type 0 where
  pub split : IsSplit q.to.now.rows.items before grant.row.now
  pub grants : is_deny (row_view grant.row.now).access ≡ false
  pub kept : IsKept (row_views (rows_without q.way q.lists.now.old.now q.lists.now.new.now)) grant

abbrev pub granted_cover : Question → (before : List Marked) → List AclRow
granted_cover q before = views_of q.from.now.rows.items ++ views_of before

abbrev pub denied_must : Question → ℕ → (d grant : Marked) → List AclRow
denied_must q place d grant =
    must_of (Some (row_view (slice_index_or q.from.now.rows.items place d).row.now))
    (row_view grant.row.now)

abbrev pub denied_cover : Question → ℕ → (before : List Marked) → List AclRow
denied_cover q place before = views_of (take place q.from.now.rows.items) ++ views_of before

-- where a row of the first list denied it, and was the first to decide
abbrev pub IsDeniedAt : Question → (before : List Marked) → (grant : Marked) → ℕ
    → List Difference → Type 0
IsDeniedAt q before grant place shown = (d : Marked) → place < length q.from.now.rows.items
    → is_deny (row_view (slice_index_or q.from.now.rows.items place d).row.now).access ≡ true
    → AreShown q (denied_must q place d grant) (denied_cover q place before) shown

-- what it grants where no row decided, and where any row was the first to deny it
pub record AreShownBy (q : Question) (before : List Marked) (grant : Marked)
    (shown : List Difference) : Type 0 where
  pub granted : AreShown q (must_of None (row_view grant.row.now)) (granted_cover q before) shown
  pub denied : (place : ℕ) → IsDeniedAt q before grant place shown

-- all that these clients gain, or lose, is shown
abbrev pub ShowsChanges : Question → List Difference → Type 0
ShowsChanges q shown = (client topic : List ℕ) (user : Option (List ℕ))
    → IsPoint (open_in q) (asked_in q) q.clients client user topic
    → is_change (rules_in q) q.way (row_views q.lists.now.old.now) (row_views q.lists.now.new.now)
    client user topic q.direction ≡ true
    → list_any (is_shown q client user topic) shown ≡ true
