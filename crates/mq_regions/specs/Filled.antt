-- A filter with a text in the place of a mark, level by level.
use Rattle.std.specs.Prelude.{◌≡◌, ℕ, Bool, true, false, List, map, ◌&&◌, ◌||◌, not}
use Rattle.std.specs.Prelude.{if◌then◌else◌, Option, Some, None}
use Rattle.std.specs.List.{list_any}
use Rattle.std.specs.Str.{bytes_eq}
use Rattle.mq_topic.specs.Levels.{levels}
use Rattle.mq_topic.specs.Matching.{levels_match_by}
use Rattle.mq_topic.specs.Texts.{contains_byte, is_name, is_plain}
use Rattle.mq_acl.specs.Access.{begins_with_dollar}
use Rattle.mq_rename.specs.Lists.{has_long}

-- a name can have this level
abbrev pub is_name_level : List ℕ → Bool
is_name_level level =
    is_plain level && not (contains_byte 0 level) && not (contains_byte 47 level)

abbrev pub has_level : List ℕ → List (List ℕ) → Bool
has_level level ls = list_any (λ l. bytes_eq l level) ls

abbrev pub fill_level : (mark text : List ℕ) → List ℕ → List ℕ
fill_level mark text level = if bytes_eq level mark then text else level

abbrev pub fill_levels : (mark text : List ℕ) → List (List ℕ) → List (List ℕ)
fill_levels mark text ls = map (fill_level mark text) ls

-- the filter has the text in the place of each mark, and it begins with `$` as the other does
pub record IsFilled (mark text filter made : List ℕ) : Type 0 where
  pub are : levels made ≡ fill_levels mark text (levels filter)
  pub fits : has_level mark (levels filter) ≡ true → is_name_level text ≡ true
  pub dollar : begins_with_dollar made ≡ begins_with_dollar filter
  pub short : has_long (levels made) ≡ false

-- without such a filter, no name is covered by one whose mark is this text
abbrev pub IsFilledIfAny : (mark text filter : List ℕ) → Option (List ℕ) → Type 0
IsFilledIfAny mark text filter None =
    (test : List ℕ → List ℕ → Bool) (name : List ℕ) → is_name name ≡ true
    → ((level : List ℕ) → test mark level ≡ bytes_eq level text)
    → ((not (begins_with_dollar name) || begins_with_dollar filter)
    && levels_match_by test (levels filter) (levels name)) ≡ false
IsFilledIfAny mark text filter (Some made) = IsFilled mark text filter made
