-- The new names that the rules of a plan give to topics.
use Rattle.std.specs.Prelude.{ℕ, Bool, false, List, find, Option, Some, None, if◌then◌else◌}
use Rattle.std.specs.List.{list_any}
use Rattle.mq_topic.specs.Levels.{levels}
use Rattle.mq_topic.specs.Matching.{matches}
use Rattle.mq_rename.specs.Renames.{Renaming}
use Rattle.mq_rename.specs.Renames as renames
use Rattle.mq_plan.specs.declared.rule.Act.{Act}
use Rattle.mq_plan.specs.declared.rule.Act.TheVariants.{Renamed, Kept, Gone}
use Rattle.mq_plan.specs.declared.rule.PlanRule.{PlanRule}

-- which topics this is about
abbrev pub left_in : Act → List ℕ
left_in (Renamed r) = r.left
left_in (Kept filter) = filter
left_in (Gone filter) = filter

abbrev pub left_of : PlanRule → List ℕ
left_of rule = left_in rule.act

abbrev pub rename_in : Act → Option Renaming
rename_in (Renamed r) = Some r
rename_in act = None

abbrev pub rename_of : PlanRule → Option Renaming
rename_of rule = rename_in rule.act

-- the rule is about the topic
abbrev pub takes : List ℕ → PlanRule → Bool
takes name rule = matches (levels (left_of rule)) (levels name)

-- the rule that decides about the topic
abbrev pub rule_for : List PlanRule → List ℕ → Option PlanRule
rule_for rules name = find (takes name) rules

-- the right side, if there is one, matches the name
abbrev pub is_right : List ℕ → Option Renaming → Bool
is_right name None = false
is_right name (Some r) = matches (levels r.right) (levels name)

-- the plan takes the name for one of its own
abbrev pub is_taken : List ℕ → PlanRule → Bool
is_taken name rule = is_right name (rename_of rule)

-- the new name of a topic that this is about
abbrev pub name_in : Act → List ℕ → Option (List ℕ)
name_in (Renamed r) name = renames.new_name r name
name_in (Kept filter) name = Some name
name_in (Gone filter) name = None

abbrev pub name_by : PlanRule → List ℕ → Option (List ℕ)
name_by rule name = name_in rule.act name

-- the new name by the rule that decides; without one the topic keeps its name, unless the plan
-- takes it for one of its own
abbrev pub decided_name : Option PlanRule → List PlanRule → List ℕ → Option (List ℕ)
decided_name None rules name = if list_any (is_taken name) rules then None else Some name
decided_name (Some rule) rules name = name_by rule name

abbrev pub new_name : List PlanRule → List ℕ → Option (List ℕ)
new_name rules name = decided_name (rule_for rules name) rules name
