-- The regions of a plan.
use Rattle.std.specs.Prelude.{◌≡◌, ◌<◌, ℕ, Bool, true, false, List, ◌++◌, ◌&&◌, not, length, All}
use Rattle.std.specs.Prelude.{Option, Some, None, codes}
use Rattle.std.specs.List.{filter_map, flat_map, list_any}
use Rattle.std.specs.Option.{option_map}
use Rattle.mq_topic.specs.Levels.{levels}
use Rattle.mq_rename.specs.Lists.{has_long, texts}
use Rattle.mq_rename.specs.Renames.{Renaming}
use Rattle.mq_rename.specs.Renames as renames
use Rattle.mq_plan.specs.Names.{name_by, new_name, rename_of, takes}
use Rattle.mq_plan.specs.declared.rule.PlanRule.{PlanRule}
use Rattle.mq_regions.specs.Regions.{has_mark, in_kind, in_region, is_taken, kind_levels, kind_name}
use Rattle.mq_regions.specs.declared.region.Region.{Region}
use Rattle.mq_regions.specs.declared.region.RegionKind.{RegionKind}
use Rattle.mq_through.specs.Checks.{HasNoName, is_unfit}
use Rattle.mq_through.specs.Through.{rule_line}
use Rattle.mq_through.specs.declared.spares.Spares.{Spares}

-- the kind has the topics that the rule is about, and gives them their names
pub record IsKindOf (rule : PlanRule) (kind : RegionKind) : Type 0 where
  pub same : (topic : List ℕ) → in_kind kind topic ≡ takes topic rule
  pub names : (topic : List ℕ) → kind_name kind topic ≡ name_by rule topic
  pub long : (topic : List ℕ) → name_by rule topic ≡ None → (rename : Renaming)
      × ((rename_of rule ≡ Some rename) × (renames.new_name rename topic ≡ None))
  pub marks : is_unfit rule ≡ false → has_mark (kind_levels kind) ≡ false
  pub short : is_unfit rule ≡ false → has_long (kind_levels kind) ≡ false

-- the topics of the kind that nothing takes get their names by the plan, and one rule, or none,
-- decides about all of them; one that gets no name is renamed to what is none
pub record IsOfPlan (plan : List PlanRule) (taken : List (List ℕ)) (kind : RegionKind) : Type 0
  where
    pub line : Option ℕ
    pub lines : (topic : List ℕ) → (not (is_taken taken topic) && in_kind kind topic) ≡ true
        → rule_line plan topic ≡ line
    pub names : (topic : List ℕ) → (not (is_taken taken topic) && in_kind kind topic) ≡ true
        → kind_name kind topic ≡ new_name plan topic
    pub long : (topic : List ℕ) → (not (is_taken taken topic) && in_kind kind topic) ≡ true
        → new_name plan topic ≡ None
        → (at : ℕ) × ((line ≡ Some at) × HasNoName plan at topic)
    pub marks : has_mark (flat_map levels taken ++ kind_levels kind) ≡ false
    pub short : has_long (flat_map levels taken ++ kind_levels kind) ≡ false

-- some filter takes topics from the region
pub record IsPart (plan : List PlanRule) (region : Region) : Type 0 where
  pub some : 0 < length region.taken.items
  pub of : IsOfPlan plan (texts region.taken.items) region.kind

-- some region has the topic
abbrev pub in_parts : List Region → List ℕ → Bool
in_parts parts topic = list_any (λ part. in_region part topic) parts

-- more regions of the plan
pub record Widens (plan : List PlanRule) (old new : List Region) : Type 0 where
  pub parts : All (IsPart plan) old → All (IsPart plan) new
  pub kept : (topic : List ℕ) → in_parts old topic ≡ true → in_parts new topic ≡ true

-- each topic with a new name is in one of them
pub record AreParts (plan : List PlanRule) (regions : List Region) : Type 0 where
  pub parts : All (IsPart plan) regions
  pub all : (topic name : List ℕ) → new_name plan topic ≡ Some name
      → in_parts regions topic ≡ true

-- the right sides of the rules that rename
abbrev pub rights_of : List PlanRule → List (List ℕ)
rights_of plan = filter_map (λ rule. option_map (λ r. r.right) (rename_of rule)) plan

-- the two filters that are kept apart
pub record AreSpares (spares : Spares) : Type 0 where
  pub dollar : spares.dollar ≡ codes "$"
  pub plain : spares.plain ≡ codes "x"
