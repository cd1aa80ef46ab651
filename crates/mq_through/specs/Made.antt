-- The lists that are made for one region and one client.
use Rattle.std.specs.Prelude.{◌≡◌, ◌<◌, ℕ, Bool, true, false, List, ◌&&◌, not, if◌then◌else◌}
use Rattle.std.specs.Prelude.{Option, Some, None, string_bytes}
use denote.Ref.{Bor}
use Rattle.mq_topic.specs.Texts.{is_name}
use Rattle.mq_acl.specs.Access.{rows_allow}
use Rattle.mq_acl.specs.Lines as lines
use Rattle.mq_acl.specs.Rows.{Named, AclRow}
use Rattle.mq_acl.specs.Views.{row_views}
use Rattle.mq_acl.specs.declared.access.Direction.{Direction}
use Rattle.mq_acl.specs.declared.row.Row.{Row}
use Rattle.mq_acl.specs.declared.rules.Rules.TheVariants.{Own}
use Rattle.mq_rename.specs.Lists.{is_long}
use Rattle.mq_witness.specs.Clients.{can_be_id}
use Rattle.mq_witness.specs.Literals.{is_among}
use Rattle.mq_witness.specs.Rows.{is_user_of}
use Rattle.mq_differences.specs.Classes.{is_listed, user_of}
use Rattle.mq_differences.specs.Differences.{has_text, is_of}
use Rattle.mq_differences.specs.declared.class.Class.{Class}
use Rattle.mq_differences.specs.declared.class.Class.TheVariants.{User, Others}
use Rattle.mq_differences.specs.declared.difference.Difference.{Difference}
use Rattle.mq_differences.specs.declared.fault.ComparisonFault.{ComparisonFault}
use Rattle.mq_differences.specs.declared.fault.ComparisonFault.TheVariants as comparison
use Rattle.mq_differences.specs.Steps.{enough_steps}
use Rattle.mq_plan.specs.Names.{new_name}
use Rattle.mq_plan.specs.declared.rule.PlanRule.{PlanRule}
use Rattle.mq_regions.specs.Deciding.{first_line}
use Rattle.mq_regions.specs.Limits.{has_long_row}
use Rattle.mq_regions.specs.Regions.{in_region, is_mark, name_in}
use Rattle.mq_regions.specs.declared.region.Region.{Region}
use Rattle.mq_through.specs.Checks.{AreFit}
use Rattle.mq_through.specs.Named.{is_named_in}
use Rattle.mq_through.specs.Through.{rule_line}
use Rattle.mq_through.specs.declared.comparison.Comparison.{Comparison}
use Rattle.mq_through.specs.declared.made.Made.{Made}
use Rattle.mq_through.specs.declared.renamed.Renamed.{Renamed}
use Rattle.mq_through.specs.declared.fault.ThroughFault.{ThroughFault}
use Rattle.mq_through.specs.declared.fault.ThroughFault.TheVariants as faults

-- the user names are those that the lists have rows for
pub record IsComparison (c : Comparison) : Type 0 where
  pub fit : AreFit c.plan.now c.old.now c.new.now
  pub users : (user : List ℕ) → is_among user c.users.items
      ≡ is_listed (row_views c.old.now) (row_views c.new.now) user

-- a client id that lists can be made for
pub record IsClient (client : List ℕ) : Type 0 where
  pub plain : is_mark client ≡ false
  pub short : is_long client ≡ false
  pub id : can_be_id client ≡ true

-- a row that denies one user what the filter matches
abbrev pub spare_row : (filter user : List ℕ) → AclRow
spare_row filter user = record { who = Named user; access = lines.Deny; filter = filter }

abbrev pub Asks : Type 0
Asks = List ℕ → Option (List ℕ)

-- the old list asks about the topic, the new one about the name that it gets in the region
abbrev pub asks_old : Asks
asks_old topic = Some topic

abbrev pub asks_new : Region → Asks
asks_new region topic = name_in region topic

-- the rows decide about the region's topics as those of a list do for this client about what it
-- asks
pub record IsList (region : Region) (asks : Asks) (client : List ℕ) (rows made : List Row) : Type 0
  where
    pub same : (x n m : List ℕ) (user : Option (List ℕ)) (p : lines.Access → Bool)
        → is_name n ≡ true → in_region region n ≡ true → asks n ≡ Some m
        → first_line p x user n made ≡ first_line p client user m rows
    pub outside : (x n : List ℕ) (user : Option (List ℕ)) (direction : Direction)
        → is_name n ≡ true → in_region region n ≡ false
        → rows_allow (row_views made) x user n direction ≡ false
    pub short : has_long_row (row_views made) ≡ false

-- they have rows for each of the user names
abbrev pub Names : List (Bor (List ℕ)) → List Row → Type 0
Names users made = (user : List ℕ) → is_among user users ≡ true
    → is_user_of user (row_views made) ≡ true

-- the lists of the comparison are made into these
pub record IsMade (k : Comparison) (region : Region) (client : List ℕ) (m : Made) : Type 0 where
  pub old_list : IsList region asks_old client k.old.now m.old.items
  pub new_list : IsList region (asks_new region) client k.new.now m.new.items
  pub names : Names k.users.items m.old.items

-- the first lines of both that decide about a topic of the region are the same
abbrev pub DecideAlike : Region → (rows others : List Row) → Type 0
DecideAlike region rows others = (x n : List ℕ) (user : Option (List ℕ))
    (p : lines.Access → Bool) → is_name n ≡ true → in_region region n ≡ true
    → first_line p x user n rows ≡ first_line p x user n others

pub record AreAlike (region : Region) (made other : Made) : Type 0 where
  pub old_lines : DecideAlike region made.old.items other.old.items
  pub new_lines : DecideAlike region made.new.items other.new.items

-- no user name is long
abbrev pub AreShort : List (Bor (List ℕ)) → Type 0
AreShort users = (user : List ℕ) → is_among user users ≡ true → is_long user ≡ false

-- a user name for which the lists have no rows is one of others
abbrev pub class_in : List (Bor (List ℕ)) → Class → Class
class_in users (User name) =
    if is_among (string_bytes name) users then User name else Others name
class_in users class = class

-- the difference with the client, the class, and the new name of the topic
pub record IsRenamed (plan : List PlanRule) (old new : List Row) (client : List ℕ)
    (users : List (Bor (List ℕ))) (d : Difference) (r : Renamed) : Type 0 where
  pub class : r.difference.class ≡ class_in users d.class
  pub direction : r.difference.direction ≡ d.direction
  pub way : r.difference.way ≡ d.way
  pub client_is : string_bytes r.difference.client ≡ client
  pub topic : r.difference.topic ≡ d.topic
  pub old_line : r.difference.old_reason ≡ d.old_reason
  pub new_line : r.difference.new_reason ≡ d.new_reason
  pub named : new_name plan d.topic ≡ Some r.new_topic
  pub rule : r.rule ≡ rule_line plan d.topic
  pub marked : (text : List ℕ) → has_text r.difference.placeholders.items text
      ≡ (is_of Own text client (user_of d.class) d.topic
      && not (is_named_in plan old new text))

-- a topic without a new name has a rule
abbrev pub HasRule : List PlanRule → List ℕ → Type 0
HasRule plan topic = new_name plan topic ≡ None → (rule_line plan topic ≡ None) → ⊥

-- the topic has no new name by the rule on this line, or there was no memory
abbrev pub IsNameFault : List PlanRule → List ℕ → ThroughFault → Type 0
IsNameFault plan topic faults.Memory = Unit {0}
IsNameFault plan topic (faults.LongName line) =
    (rule_line plan topic ≡ Some line) × (new_name plan topic ≡ None)
IsNameFault plan topic fault = ⊥

-- there was no memory, or fewer steps are given than are enough for so many rows
abbrev pub IsStop : (rows steps : ℕ) → ThroughFault → Type 0
IsStop rows steps faults.Memory = Unit {0}
IsStop rows steps faults.GaveUp = steps < enough_steps rows
IsStop rows steps fault = ⊥

-- so too of the comparison of two lists
abbrev pub IsCompareStop : ComparisonFault → Type 0
IsCompareStop comparison.Memory = Unit {0}
IsCompareStop (comparison.GaveUp side line others) = Unit {0}
IsCompareStop fault = ⊥
