-- Regions of topics, and the names that their topics get.
use Rattle.std.specs.Prelude.{ℕ, Bool, true, List, [], ◌++◌, ◌&&◌, ◌||◌, not, codes, Option, Some}
use Rattle.std.specs.List.{flat_map, list_any}
use Rattle.std.specs.Str.{bytes_eq}
use Rattle.mq_topic.specs.Levels.{levels}
use Rattle.mq_topic.specs.Matching.{matches}
use Rattle.mq_rename.specs.Lists.{texts}
use Rattle.mq_rename.specs.Renames.{new_name}
use Rattle.mq_regions.specs.declared.region.Region.{Region}
use Rattle.mq_regions.specs.declared.region.RegionKind.{RegionKind}
use Rattle.mq_regions.specs.declared.region.RegionKind.TheVariants.{Renamed, Kept, Same}
use Rattle.mq_regions.specs.declared.side.Side.{Side}
use Rattle.mq_regions.specs.declared.side.Side.TheVariants.{Old, New}

-- the topics that the rule renames, or that the filter matches, or all
abbrev pub in_kind : RegionKind → List ℕ → Bool
in_kind (Renamed rule) name = matches (levels rule.now.left) (levels name)
in_kind (Kept filter) name = matches (levels filter.now) (levels name)
in_kind Same name = true

-- some of the filters matches the name
abbrev pub is_taken : List (List ℕ) → List ℕ → Bool
is_taken taken name = list_any (λ filter. matches (levels filter) (levels name)) taken

-- the topic is of the region: it is of its kind, and no filter takes it
abbrev pub in_region : Region → List ℕ → Bool
in_region region name =
    not (is_taken (texts region.taken.items) name) && in_kind region.kind name

-- the name that a topic of this kind gets, if it gets one
abbrev pub kind_name : RegionKind → List ℕ → Option (List ℕ)
kind_name (Renamed rule) name = new_name rule.now name
kind_name (Kept filter) name = Some name
kind_name Same name = Some name

abbrev pub name_in : Region → List ℕ → Option (List ℕ)
name_in region name = kind_name region.kind name

-- the name that a list asks about a topic: the old one, or the one that it gets
abbrev pub side_name : Side → RegionKind → List ℕ → Option (List ℕ)
side_name Old kind name = Some name
side_name New kind name = kind_name kind name

-- the levels of its filters
abbrev pub kind_levels : RegionKind → List (List ℕ)
kind_levels (Renamed rule) = levels rule.now.left ++ levels rule.now.right
kind_levels (Kept filter) = levels filter.now
kind_levels Same = []

abbrev pub region_levels : Region → List (List ℕ)
region_levels region = flat_map levels (texts region.taken.items) ++ kind_levels region.kind

-- a level that a `pattern` row reads as the client id, or as the user name (mosquitto.conf(5))
abbrev pub is_mark : List ℕ → Bool
is_mark level = bytes_eq level (codes "%c") || bytes_eq level (codes "%u")

abbrev pub has_mark : List (List ℕ) → Bool
has_mark ls = list_any is_mark ls
