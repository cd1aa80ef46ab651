-- Rules by which topics are renamed, and the names that they give.
use Rattle.std.specs.Prelude.{ℕ, Bool, List, [], ◌∷◌, length, drop, ◌==◌, ◌-◌, ◌&&◌, ◌||◌, not}
use Rattle.std.specs.Prelude.{if◌then◌else◌, Option, Some, None}
use Rattle.std.specs.List.{flat_map, join_with_byte, list_all, zip}
use Rattle.mq_topic.specs.Levels.{levels}
use Rattle.mq_topic.specs.Matching.{ends_with_hash, is_wildcard, level_at, matches}
use Rattle.mq_topic.specs.Texts.{is_name}
use Rattle.mq_rename.specs.Lists.{is_hash, is_plus}

-- topics that the left filter matches get names of the right one's levels; of each of these the
-- place of the level on the left that it stands for, if it is `+`
pub record Renaming : Type 0 where
  pub left : List ℕ
  pub right : List ℕ
  pub places : List ℕ

-- a `+` on the right has the place of one on the left
abbrev pub has_place : List (List ℕ) → List ℕ × ℕ → Bool
has_place left q = not (is_plus q.0) || is_plus (level_at left q.1)

-- each level on the right has a place, and a `+` that of one on the left; `#` ends the right side
-- only where it ends the left; the right side begins with a level of its own
abbrev pub is_rename : List ℕ → List ℕ → List ℕ → Bool
is_rename left right places =
    (length (levels right) == length places)
    && list_all (has_place (levels left)) (zip (levels right) places)
    && (not (ends_with_hash (levels right)) || ends_with_hash (levels left))
    && not (is_wildcard (level_at (levels right) 0))

-- what a level on the right becomes: `+` the name's level at its place, and `#` the name's levels
-- behind the front
abbrev pub becomes : ℕ → List (List ℕ) → List ℕ × ℕ → List (List ℕ)
becomes front name q =
    if is_plus q.0 then level_at name q.1 ∷ []
    else (if is_hash q.0 then drop front name else q.0 ∷ [])

-- the levels of the new name; in front are those before the left side's `#`
abbrev pub new_levels : List (List ℕ) → List (List ℕ) → List ℕ → List (List ℕ) → List (List ℕ)
new_levels left right places name = flat_map (becomes (length left - 1) name) (zip right places)

abbrev pub new_text : Renaming → List ℕ → List ℕ
new_text r name =
    join_with_byte 47 (new_levels (levels r.left) (levels r.right) r.places (levels name))

-- the new name of a name that the left side matches, if its text is a name
abbrev pub new_name : Renaming → List ℕ → Option (List ℕ)
new_name r name =
    if matches (levels r.left) (levels name) && is_name (new_text r name) then
    Some (new_text r name) else None
