-- What changes where a list asks about topics, and a later one about the new names that they get.
use Rattle.std.specs.Prelude.{◌≡◌, ℕ, Bool, true, false, List, ◌==◌, ◌&&◌, not, Option, Some, None}
use Rattle.std.specs.Prelude.{string_bytes}
use Rattle.std.specs.List.{AllPairs, list_any}
use Rattle.std.specs.Option.{option_map}
use Rattle.mq_topic.specs.Texts.{is_name}
use Rattle.mq_acl.specs.Access.{begins_with_dollar, rows_allow}
use Rattle.mq_acl.specs.Views.{row_views}
use Rattle.mq_acl.specs.declared.access.Direction.{Direction}
use Rattle.mq_acl.specs.declared.row.Row.{Row}
use Rattle.mq_acl.specs.declared.rules.Rules.TheVariants.{Own}
use Rattle.mq_cover.specs.Names.{can_be_level}
use Rattle.mq_witness.specs.Clients.{can_be_id}
use Rattle.mq_witness.specs.Swaps.{swap, swap_name, swap_user}
use Rattle.mq_differences.specs.Classes.{can_be_user, is_in, user_of}
use Rattle.mq_differences.specs.Differences.{has_text, is_of, same_class, same_direction}
use Rattle.mq_differences.specs.Differences.{same_reason}
use Rattle.mq_differences.specs.Differences.{same_start, same_way}
use Rattle.mq_differences.specs.Reasons.{reason_of}
use Rattle.mq_differences.specs.declared.reason.Reason.{Reason}
use Rattle.mq_differences.specs.declared.way.Way.{Way}
use Rattle.mq_differences.specs.declared.way.Way.TheVariants.{Gained, Lost}
use Rattle.mq_plan.specs.Names.{new_name, rule_for}
use Rattle.mq_plan.specs.declared.rule.PlanRule.{PlanRule}
use Rattle.mq_through.specs.Named.{is_named_in}
use Rattle.mq_through.specs.declared.renamed.Renamed.{Renamed}

-- a client that asks about a topic in a direction: the old list about the topic, the new one about
-- the name
pub record Question : Type 0 where
  pub client : List ℕ
  pub user : Option (List ℕ)
  pub direction : Direction
  pub topic : List ℕ
  pub name : List ℕ

-- a broker can have the client and the topic, and the name is the topic's new one by the plan
pub record IsQuestion (plan : List PlanRule) (q : Question) : Type 0 where
  pub client : can_be_id q.client ≡ true
  pub user : can_be_user q.user ≡ true
  pub topic : is_name q.topic ≡ true
  pub name : new_name plan q.topic ≡ Some q.name

abbrev pub old_allows : List Row → Question → Bool
old_allows old q = rows_allow (row_views old) q.client q.user q.topic q.direction

abbrev pub new_allows : List Row → Question → Bool
new_allows new q = rows_allow (row_views new) q.client q.user q.name q.direction

abbrev pub changes : Way → (old new : Bool) → Bool
changes Gained old new = new && not old
changes Lost old new = old && not new

-- the new list allows it and the old one doesn't, or the other way round
abbrev pub is_changed : Way → (old new : List Row) → Question → Bool
is_changed way old new q = changes way (old_allows old q) (new_allows new q)

abbrev pub old_reason : List Row → Question → Reason
old_reason old q = reason_of Own old q.client q.user q.topic q.direction

abbrev pub new_reason : List Row → Question → Reason
new_reason new q = reason_of Own new q.client q.user q.name q.direction

-- the line of the rule that decides about the topic
abbrev pub rule_line : List PlanRule → List ℕ → Option ℕ
rule_line plan topic = option_map (λ rule. rule.line) (rule_for plan topic)

abbrev pub same_line : Option ℕ → Option ℕ → Bool
same_line None None = true
same_line (Some line) None = false
same_line None (Some other) = false
same_line (Some line) (Some other) = line == other

-- it is of this way and direction, of the class of this client, of topics that begin with `$` if
-- this one does, and the lines that decide it decide this
abbrev pub is_shown_of : List PlanRule → (old new : List Row) → Way → Question → Renamed → Bool
is_shown_of plan old new way q r =
    is_in (row_views old) (row_views new) q.user r.difference.class
    && same_direction q.direction r.difference.direction
    && same_way way r.difference.way && same_start q.topic r.difference.topic
    && same_reason (old_reason old q) r.difference.old_reason
    && same_reason (new_reason new q) r.difference.new_reason
    && same_line (rule_line plan q.topic) r.rule

-- whatever changes is shown
abbrev pub ShowsAll : List PlanRule → (old new : List Row) → List Renamed → Type 0
ShowsAll plan old new all = (way : Way) (q : Question) → IsQuestion plan q
    → is_changed way old new q ≡ true
    → list_any (is_shown_of plan old new way q) all ≡ true

-- both are of the same class, direction and way, of topics that begin with `$` or of others, and
-- the same lines decide them
abbrev pub is_alike : Renamed → Renamed → Bool
is_alike r s = same_class r.difference.class s.difference.class
    && same_direction r.difference.direction s.difference.direction
    && same_way r.difference.way s.difference.way
    && same_start r.difference.topic s.difference.topic
    && same_reason r.difference.old_reason s.difference.old_reason
    && same_reason r.difference.new_reason s.difference.new_reason
    && same_line r.rule s.rule

-- no two are alike
abbrev pub AreApart : List Renamed → Type 0
AreApart all = AllPairs (λ r s. is_alike s r ≡ false) all

-- what it speaks of
abbrev pub question_of : Renamed → Question
question_of r = record {
  client = string_bytes r.difference.client;
  user = user_of r.difference.class;
  direction = r.difference.direction;
  topic = r.difference.topic;
  name = r.new_topic;
}

-- its placeholders are those of the client id, the user name and the topic's levels that neither
-- list and no rule names
abbrev pub IsMarked : List PlanRule → (old new : List Row) → Renamed → Type 0
IsMarked plan old new r = (text : List ℕ) → has_text r.difference.placeholders.items text
    ≡ (is_of Own text (string_bytes r.difference.client) (user_of r.difference.class)
    r.difference.topic && not (is_named_in plan old new text))

-- it is so of this question: a broker can have it, it is of the class, it changes that way, and
-- these lines and this rule decide
pub record Shows (plan : List PlanRule) (old new : List Row) (r : Renamed) (q : Question) : Type 0
  where
    pub asked : IsQuestion plan q
    pub class : is_in (row_views old) (row_views new) q.user r.difference.class ≡ true
    pub direction : q.direction ≡ r.difference.direction
    pub change : is_changed r.difference.way old new q ≡ true
    pub old_line : r.difference.old_reason ≡ old_reason old q
    pub new_line : r.difference.new_reason ≡ new_reason new q
    pub rule : r.rule ≡ rule_line plan q.topic

-- it is so of the client and the topic that it names
pub record IsReal (plan : List PlanRule) (old new : List Row) (r : Renamed) : Type 0 where
  pub shown : Shows plan old new r (question_of r)
  pub marked : IsMarked plan old new r

-- a placeholder stands for this other text: neither list and no rule names that, each of the two can
-- be a client id, and the other can be a level, and begins with `$`, just where the placeholder does
pub record StandsForText (plan : List PlanRule) (old new : List Row) (r : Renamed)
    (text other : List ℕ) : Type 0 where
  pub placeholder : has_text r.difference.placeholders.items text ≡ true
  pub unnamed : is_named_in plan old new other ≡ false
  pub id : can_be_id text ≡ true
  pub other_id : can_be_id other ≡ true
  pub level : can_be_level other ≡ can_be_level text
  pub dollar : begins_with_dollar other ≡ begins_with_dollar text

-- both texts in each other's place
abbrev pub exchanged : (text other : List ℕ) → Question → Question
exchanged text other q = record {
  client = swap text other q.client;
  user = swap_user text other q.user;
  direction = q.direction;
  topic = swap_name text other q.topic;
  name = swap_name text other q.name;
}

-- it is so too with any text in the place of a placeholder that stands for it, in the new name too,
-- where both are topic names then
abbrev pub ShowsOthers : List PlanRule → (old new : List Row) → Renamed → Type 0
ShowsOthers plan old new r = (text other : List ℕ) → StandsForText plan old new r text other
    → is_name (swap_name text other r.difference.topic) ≡ true
    → is_name (swap_name text other r.new_topic) ≡ true
    → Shows plan old new r (exchanged text other (question_of r))
