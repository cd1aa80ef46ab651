-- A filter that is carried to the topics of a region.
use Rattle.std.specs.Prelude.{◌≡◌, ℕ, Bool, true, false, List, ◌||◌, Option, Some, None}
use Rattle.mq_topic.specs.Levels.{levels}
use Rattle.mq_topic.specs.Matching.{matches}
use Rattle.mq_topic.specs.Texts.{is_name}
use Rattle.mq_rename.specs.Lists.{has_long}
use Rattle.mq_rename.specs.Renames.{is_rename}
use Rattle.mq_regions.specs.Regions.{in_kind, kind_levels, side_name}
use Rattle.mq_regions.specs.declared.region.RegionKind.{RegionKind}
use Rattle.mq_regions.specs.declared.region.RegionKind.TheVariants.{Renamed}
use Rattle.mq_regions.specs.declared.side.Side.{Side}
use Rattle.mq_regions.specs.declared.side.Side.TheVariants.{New}

-- the rule of new names is one
abbrev pub is_rule : Side → RegionKind → Bool
is_rule New (Renamed rule) = is_rename rule.now.left rule.now.right rule.now.places
is_rule side kind = true

-- it matches a topic where the filter matches the name that the list asks about, and none elsewhere
pub record IsCarried (side : Side) (kind : RegionKind) (filter carried : List ℕ) : Type 0 where
  pub same : (n m : List ℕ) → is_name n ≡ true → in_kind kind n ≡ true
      → side_name side kind n ≡ Some m
      → matches (levels carried) (levels n) ≡ matches (levels filter) (levels m)
  pub inside : (n : List ℕ) → is_name n ≡ true
      → matches (levels carried) (levels n) ≡ true → in_kind kind n ≡ true
  pub rule : is_rule side kind ≡ true
  pub long : has_long (levels carried) ≡ true
      → (has_long (kind_levels kind) || has_long (levels filter)) ≡ true

-- no topic gets a name that the filter matches
pub record IsNowhere (side : Side) (kind : RegionKind) (filter : List ℕ) : Type 0 where
  pub none : (n m : List ℕ) → is_name n ≡ true → in_kind kind n ≡ true
      → side_name side kind n ≡ Some m → matches (levels filter) (levels m) ≡ false
  pub rule : is_rule side kind ≡ true

abbrev pub IsCarriedIfAny : Side → RegionKind → List ℕ → Option (List ℕ) → Type 0
IsCarriedIfAny side kind filter None = IsNowhere side kind filter
IsCarriedIfAny side kind filter (Some carried) = IsCarried side kind filter carried
