-- What stands on the left for what stands on the right.
use Rattle.std.specs.Prelude.{ℕ, Bool, List, length, map, take, count_by, ◌==◌, ◌&&◌, ◌||◌, not}
use Rattle.std.specs.Prelude.{nat_lt, position, slice_index, if◌then◌else◌, Option, Some, None}
use Rattle.std.specs.List.{enumerate_from, filter_map, list_any, position_or_len}
use Rattle.std.specs.Option.{option_map, option_or}
use Rattle.std.specs.Str.{bytes_eq}
use Rattle.mq_topic.specs.Levels.{levels}
use Rattle.mq_topic.specs.Matching.{level_at}
use Rattle.mq_rename.specs.Lists.{is_hash, is_plus}
use Rattle.mq_rename.specs.Renames.{Renaming}
use Rattle.mq_plan.specs.Sides.{begins_with_plus, is_named, plain_text, side_fault}
use Rattle.mq_plan.specs.declared.fault.PlanKind.{PlanKind}
use Rattle.mq_plan.specs.declared.fault.PlanKind.TheVariants as kinds
use Rattle.mq_plan.specs.declared.fault.Side.TheVariants.{Left, Right}

-- a name that stands on these levels more than once
abbrev pub is_twice : List (List ℕ) → List ℕ → Bool
is_twice ls level = is_named level && nat_lt 1 (count_by (bytes_eq level) ls)

abbrev pub twice_fault : List (List ℕ) → Option PlanKind
twice_fault left = option_map (λ i. kinds.Twice i) (position (is_twice left) left)

-- how many levels are `+`, without a name
abbrev pub plus_count : List (List ℕ) → ℕ
plus_count ls = count_by is_plus ls

abbrev pub has_name : List (List ℕ) → Bool
has_name ls = list_any is_named ls

-- each `+` on the right stands for one on the left, by their order: there are as many, and no level
-- has a name; or there is none
abbrev pub are_paired : List (List ℕ) → List (List ℕ) → Bool
are_paired left right =
    plus_count right == 0
    || (plus_count right == plus_count left && not (has_name left || has_name right))

abbrev pub unnamed_fault : List (List ℕ) → List (List ℕ) → Option PlanKind
unnamed_fault left right =
    if are_paired left right then None
    else Some (kinds.Unnamed (plus_count left) (plus_count right))

-- a `+` with a name, or a `#`, that isn't on the left
abbrev pub is_unbound : List (List ℕ) → List ℕ → Bool
is_unbound left level = (is_named level || is_hash level) && not (list_any (bytes_eq level) left)

abbrev pub unbound_fault : List (List ℕ) → List (List ℕ) → Option PlanKind
unbound_fault left right = option_map (λ i. kinds.Unbound i) (position (is_unbound left) right)

abbrev pub begins_with_wildcard : List (List ℕ) → Bool
begins_with_wildcard ls = begins_with_plus (level_at ls 0) || is_hash (level_at ls 0)

abbrev pub front_fault : List (List ℕ) → Option PlanKind
front_fault right = if begins_with_wildcard right then Some kinds.Front else None

-- what is wrong with sides that are well each by itself
abbrev pub pair_fault : List (List ℕ) → List (List ℕ) → Option PlanKind
pair_fault left right =
    option_or (twice_fault left) (option_or (unnamed_fault left right)
    (option_or (unbound_fault left right) (front_fault right)))

-- what is wrong with `FROM -> TO`
abbrev pub rename_fault : List ℕ → List ℕ → Option PlanKind
rename_fault left right =
    if length right == 0 then Some (kinds.Missing Right)
    else option_or (side_fault Left left) (option_or (side_fault Right right)
    (pair_fault (levels left) (levels right)))

-- what is wrong with `keep FROM` or `none FROM`
abbrev pub left_fault : List ℕ → Option PlanKind
left_fault left = option_or (side_fault Left left) (twice_fault (levels left))

abbrev pub place_if_plus : ℕ × List ℕ → Option ℕ
place_if_plus placed = if is_plus placed.1 then Some placed.0 else None

-- the places of the levels that are `+`
abbrev pub plus_places : List (List ℕ) → List ℕ
plus_places ls = filter_map place_if_plus (enumerate_from 0 ls)

-- the place on the left of what a level on the right stands for, with so many `+` before it: the
-- same name, or the next `+`
abbrev pub place_of : List (List ℕ) → ℕ → List ℕ → ℕ
place_of left before level =
    if is_plus level then slice_index (plus_places left) before
    else (if is_named level then position_or_len (bytes_eq level) left else 0)

abbrev pub placed_at : List (List ℕ) → List (List ℕ) → ℕ × List ℕ → ℕ
placed_at left right placed = place_of left (plus_count (take placed.0 right)) placed.1

-- the places of all
abbrev pub places : List (List ℕ) → List (List ℕ) → List ℕ
places left right = map (placed_at left right) (enumerate_from 0 right)

-- how topics are renamed by these sides
abbrev pub renaming : List ℕ → List ℕ → Renaming
renaming left right = record {
  left = plain_text left;
  right = plain_text right;
  places = places (levels left) (levels right);
}
