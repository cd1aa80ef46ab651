-- The sides of a rule of a plan: topic filters whose `+` may have names.
use Rattle.std.specs.Prelude.{ℕ, Bool, false, List, [], ◌∷◌, length, map, ◌==◌, ◌+◌, ◌&&◌, ◌||◌}
use Rattle.std.specs.Prelude.{not, codes, nat_le, nat_lt, slice_get, slice_index, if◌then◌else◌}
use Rattle.std.specs.Prelude.{Option, Some, None}
use Rattle.std.specs.List.{enumerate_from, filter_map, join_with_byte, list_all}
use Rattle.std.specs.Str.{bytes_eq}
use Rattle.mq_topic.specs.Levels.{levels}
use Rattle.mq_topic.specs.Texts.{contains_byte}
use Rattle.mq_rename.specs.Lists.{has_long, is_hash, is_plus}
use Rattle.mq_plan.specs.declared.fault.Side.{Side}
use Rattle.mq_plan.specs.declared.fault.PlanKind.{PlanKind}
use Rattle.mq_plan.specs.declared.fault.PlanKind.TheVariants as kinds

-- a letter, a digit, `-` or `_`
abbrev pub is_name_byte : ℕ → Bool
is_name_byte b = (nat_le 48 b && nat_le b 57) || (nat_le 65 b && nat_le b 90)
    || (nat_le 97 b && nat_le b 122) || b == 45 || b == 95

abbrev pub begins_with_plus : List ℕ → Bool
begins_with_plus level = slice_index level 0 == 43

-- `+`, with a name behind it or none
abbrev pub is_capture : List ℕ → Bool
is_capture [] = false
is_capture (b ∷ name) = b == 43 && list_all is_name_byte name

-- a `+` with a name
abbrev pub is_named : List ℕ → Bool
is_named level = begins_with_plus level && not (is_plus level)

-- a level of a topic filter: a name behind its `+` is left out
abbrev pub plain : List ℕ → List ℕ
plain level = if begins_with_plus level then codes "+" else level

abbrev pub plain_levels : List ℕ → List (List ℕ)
plain_levels text = map plain (levels text)

-- the side as a topic filter
abbrev pub plain_text : List ℕ → List ℕ
plain_text text = join_with_byte 47 (plain_levels text)

abbrev pub is_mark : List ℕ → Bool
is_mark level = bytes_eq level (codes "%c") || bytes_eq level (codes "%u")

-- it may be a level of a topic filter, the last one or another
abbrev pub is_fit : Bool → List ℕ → Bool
is_fit last level = not (contains_byte 0 level)
    && (begins_with_plus level || not (contains_byte 43 level))
    && (not (contains_byte 35 level) || (last && is_hash level))

-- what is wrong with the level at this place of a side of so many
abbrev pub level_fault : Side → ℕ → ℕ × List ℕ → Option PlanKind
level_fault side count placed =
    if begins_with_plus placed.1 && not (is_capture placed.1) then
    Some (kinds.Capture side placed.0)
    else (if is_mark placed.1 then Some (kinds.Mark side placed.0)
    else (if not (is_fit (placed.0 + 1 == count) placed.1) then Some (kinds.Side side placed.0)
    else None))

-- more than 200 levels, or one of more than 300 bytes
abbrev pub is_long_side : List (List ℕ) → Bool
is_long_side ls = nat_lt 200 (length ls) || has_long ls

-- what is wrong with the first faulty level, and with this side alone
abbrev pub first_level_fault : Side → List (List ℕ) → Option PlanKind
first_level_fault side ls =
    slice_get (filter_map (level_fault side (length ls)) (enumerate_from 0 ls)) 0

abbrev pub side_fault : Side → List ℕ → Option PlanKind
side_fault side text =
    if length text == 0 then Some (kinds.Missing side)
    else (if is_long_side (levels text) then Some (kinds.Long side)
    else first_level_fault side (levels text))
