-- Differences that are alike.
use Rattle.std.specs.Prelude.{◌≡◌, ◌<◌, ℕ, Bool, true, false, not, List, [], ◌∷◌, ◌++◌, ◌&&◌}
use Rattle.std.specs.Prelude.{All, AllPairs, Contains, IsPermutation, codes, length, map, slice_index_or}
use Rattle.std.specs.BTreeMap.{get_by_text}
use Rattle.std.specs.Fmt.{decimal}
use Rattle.std.specs.List.{filter, flat_map}
use Rattle.std.specs.Option.{option_map_or}
use Rattle.std.specs.Str.{bytes_eq}
use Rattle.mq_differences.specs.Differences.{same_direction, same_way, same_reasons}
use Rattle.mq_differences.specs.declared.difference.Difference.{Difference}
use Rattle.mq_differences.specs.declared.group.Gathering.{Gathering}
use Rattle.mq_differences.specs.declared.group.Group.{Group}
use Rattle.mq_differences.specs.declared.reason.Reason.{Reason}
use Rattle.mq_differences.specs.declared.reason.Reason.TheVariants.{Broker, Deny, Grant, NoGrant}

-- of the same way, direction and topic, and decided by the same lines
abbrev pub is_alike : Difference → Difference → Bool
is_alike d e =
    same_direction d.direction e.direction && same_way d.way e.way && same_reasons d e
    && bytes_eq d.topic e.topic

-- of those that are alike the first alone, each in its place
unfoldable pub firsts : List Difference → List Difference
firsts [] = []
firsts (d ∷ all) = d ∷ filter (λ e. not (is_alike d e)) (firsts all)

abbrev pub members : List Group → List Difference
members groups = flat_map (λ group. group.first ∷ group.others.items) groups

-- all of the group are alike
abbrev pub IsGroup : Group → Type 0
IsGroup group = All (λ d. is_alike group.first d ≡ true) group.others.items

-- the difference is one more of the group
pub record JoinsGroup (old : Group) (d : Difference) (new : Group) : Type 0 where
  pub first : new.first ≡ old.first
  pub others : new.others.items ≡ old.others.items ++ d ∷ []

-- each difference is in one group, with all that are alike; and the groups are in the order of their first ones
pub record IsGathering (differences : List Difference) (groups : List Group) : Type 0 where
  pub all : IsPermutation differences (members groups)
  pub alike : All IsGroup groups
  pub apart : AllPairs (λ d e. is_alike d e ≡ false) (map (λ group. group.first) groups)
  pub order : map (λ group. group.first) groups ≡ firsts differences

-- ---- where a group is looked up
-- the line that decides, or 0 where none does
abbrev pub line_of : Reason → ℕ
line_of (Deny line) = line
line_of (Grant line) = line
line_of NoGrant = 0
line_of Broker = 0

-- the same for all that are alike: the lines that decide, and the topic
abbrev pub key_of : Difference → List ℕ
key_of d = decimal (line_of d.old_reason) ++ (codes " " ++ (decimal (line_of d.new_reason)
    ++ (codes " " ++ d.topic)))

abbrev pub places_at : List ℕ → Gathering → List ℕ
places_at key gathering =
    option_map_or (λ places. places.items) (get_by_text gathering.places key) []

-- the difference belongs to the group at this place
pub record HasGroup (groups : List Group) (d : Difference) (place : ℕ) : Type 0 where
  pub within : place < length groups
  pub alike : (g : Group) → is_alike (slice_index_or groups place g).first d ≡ true

-- it doesn't, if there is one
abbrev pub LacksGroup : List Group → Difference → ℕ → Type 0
LacksGroup groups d place = (g : Group) → place < length groups
    → is_alike (slice_index_or groups place g).first d ≡ false

-- they are gathered, and each group is found by its key
pub record IsGathered (differences : List Difference) (gathering : Gathering) : Type 0 where
  pub gathered : IsGathering differences gathering.groups.items
  pub placed : (place : ℕ) (g : Group) → place < length gathering.groups.items
      → Contains (places_at (key_of (slice_index_or gathering.groups.items place g).first) gathering)
      place
