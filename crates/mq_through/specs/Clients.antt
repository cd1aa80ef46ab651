-- Which client ids are tried, and whom they stand for.
use Rattle.std.specs.Prelude.{◌≡◌, ◌≤◌, ℕ, Bool, true, false, List, ◌++◌, ◌&&◌, ◌||◌, not}
use Rattle.std.specs.Prelude.{replicate}
use Rattle.std.specs.Prelude.{Option, Some, None, string_bytes}
use Rattle.std.specs.List.{list_any}
use Rattle.std.specs.Str.{bytes_eq}
use denote.Ref.{Bor}
use Rattle.mq_topic.specs.Levels.{levels}
use Rattle.mq_topic.specs.Matching.{is_wildcard}
use Rattle.mq_acl.specs.Access.{begins_with_dollar}
use Rattle.mq_acl.specs.Rows.{AclRow}
use Rattle.mq_acl.specs.Views.{row_views}
use Rattle.mq_acl.specs.declared.row.Row.{Row}
use Rattle.mq_differences.specs.Classes.{is_in}
use Rattle.mq_differences.specs.declared.class.Class.{Class}
use Rattle.mq_plan.specs.Names.{left_of, rename_of}
use Rattle.mq_plan.specs.declared.rule.PlanRule.{PlanRule}
use Rattle.mq_rename.specs.Renames.{Renaming}
use Rattle.mq_cover.specs.Names.{can_be_level}
use Rattle.mq_witness.specs.Clients.{can_be_id}
use Rattle.mq_witness.specs.Literals.{is_among}
use Rattle.mq_witness.specs.Rows.{is_name_of}
use Rattle.mq_regions.specs.Regions.{is_mark}
use Rattle.mq_through.specs.Made.{IsClient}
use Rattle.mq_through.specs.Named.{AllNamed, asks_in, is_named_in}
use Rattle.mq_through.specs.Through.{IsQuestion, Question, new_reason, old_reason, rule_line}
use Rattle.mq_through.specs.declared.fresh.Fresh.{Fresh}
use Rattle.mq_through.specs.declared.fresh.Fresh.TheVariants.{Any, Each}
use Rattle.mq_through.specs.declared.fault.ThroughFault.{ThroughFault}
use Rattle.mq_through.specs.declared.fault.ThroughFault.TheVariants as faults
use Rattle.mq_through.specs.declared.comparison.Comparison.{Comparison}

-- a list or the plan names the text
abbrev pub is_named : Comparison → List ℕ → Bool
is_named c text = is_named_in c.plan.now c.old.now c.new.now text

-- a `pattern` row has the client id as a level
abbrev pub ask_client : Comparison → Bool
ask_client c = asks_in c.old.now c.new.now

-- a text that nothing names and that can be a client id
pub record IsFresh (c : Comparison) (dollar : Bool) (text : List ℕ) : Type 0 where
  pub unnamed : is_named c text ≡ false
  pub client : IsClient text
  pub begin : begins_with_dollar text ≡ dollar
  pub level : can_be_level text ≡ true

-- where no row asks about the client id, any stands for all
abbrev pub AreFresh : Comparison → Fresh → Type 0
AreFresh c (Any text) = (ask_client c ≡ false) × IsClient (string_bytes text)
AreFresh c (Each plain dollar) = (ask_client c ≡ true)
    × IsFresh c false (string_bytes plain) × IsFresh c true (string_bytes dollar)

-- the base with some `x` behind it, which nothing names
pub record IsUnused (c : Comparison) (base text : List ℕ) : Type 0 where
  pub count : ℕ
  pub few : count ≤ 290
  pub is : text ≡ base ++ replicate count 120
  pub unnamed : is_named c text ≡ false

-- a text that is no mark, and can be a client id
abbrev pub can_be_tried : List ℕ → Bool
can_be_tried text = not (is_mark text) && can_be_id text

-- it is one of the levels, and no wildcard
abbrev pub has_tried : List ℕ → List (List ℕ) → Bool
has_tried text ls =
    list_any (λ l. bytes_eq text l && (not (is_wildcard l) && can_be_tried l)) ls

abbrev pub row_tries : List ℕ → AclRow → Bool
row_tries text row =
    has_tried text (levels row.filter) || (is_name_of text row.who && can_be_tried text)

abbrev pub right_tries : List ℕ → Option Renaming → Bool
right_tries text None = false
right_tries text (Some rename) = has_tried text (levels rename.right)

abbrev pub rule_tries : List ℕ → PlanRule → Bool
rule_tries text rule =
    has_tried text (levels (left_of rule)) || right_tries text (rename_of rule)

-- both are of the same class, direction and rule, of topics that begin with `$` or of others, and
-- the same lines decide about them
pub record StandsFor (plan : List PlanRule) (old new : List Row) (q t : Question) : Type 0 where
  pub asked : IsQuestion plan t
  pub users : (class : Class) → is_in (row_views old) (row_views new) t.user class
      ≡ is_in (row_views old) (row_views new) q.user class
  pub direction : t.direction ≡ q.direction
  pub start : begins_with_dollar t.topic ≡ begins_with_dollar q.topic
  pub old_same : old_reason old t ≡ old_reason old q
  pub new_same : new_reason new t ≡ new_reason new q
  pub rule : rule_line plan t.topic ≡ rule_line plan q.topic

-- one of the clients, with some user name and topic, stands for each client, user name and topic
abbrev pub StandForAll : List PlanRule → (old new : List Row) → List (Bor (List ℕ)) → Type 0
StandForAll plan old new clients = (q : Question) → IsQuestion plan q
    → (t : Question) × ((is_among t.client clients ≡ true) × StandsFor plan old new q t)

-- some text of these has it
abbrev pub Tries : (List ℕ → Type 0) → List (Bor (List ℕ)) → Type 0
Tries P clients = (text : List ℕ) × ((is_among text clients ≡ true) × P text)

-- the texts that stand for others are among these, and so is each text that is named, where the
-- client id is asked about
pub record AreTried (c : Comparison) (clients : List (Bor (List ℕ))) : Type 0 where
  pub any : ask_client c ≡ false → Tries IsClient clients
  pub fresh : ask_client c ≡ true → (dollar : Bool) → Tries (IsFresh c dollar) clients
  pub named : ask_client c ≡ true → (text : List ℕ) → is_named c text ≡ true
      → can_be_tried text ≡ true → is_among text clients ≡ true

-- there was no memory, or each text of the base is named
abbrev pub IsFreshFault : Comparison → List ℕ → ThroughFault → Type 0
IsFreshFault c base faults.Memory = Unit {0}
IsFreshFault c base faults.NoClient = AllNamed c.plan.now c.old.now c.new.now base
IsFreshFault c base fault = ⊥
