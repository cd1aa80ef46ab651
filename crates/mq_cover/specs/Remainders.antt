-- What is left of the filters of rows behind the first levels of a name, and which of the levels
-- that follow they cover.
use Rattle.std.specs.Prelude.{◌≡◌, ◌≤◌, ℕ, Bool, true, false, List, [], ◌∷◌, length, codes, ◌&&◌}
use Rattle.std.specs.Prelude.{◌||◌, not, ◌==◌, if◌then◌else◌, Option, Some, None}
use Rattle.std.specs.List.{list_any, list_all}
use Rattle.std.specs.Option.{option_copied}
use Rattle.std.specs.Str.{bytes_eq}
use Rattle.mq_topic.specs.Levels.{levels_left}
use Rattle.mq_topic.specs.Matching.{level_matches, levels_match_by}
use Rattle.mq_acl.specs.Access.{is_user}
use Rattle.mq_cover.specs.Names.{suits, is_name_level}
use Rattle.mq_cover.specs.declared.start.Start.{Start}
use Rattle.mq_cover.specs.declared.marks.Marks.{Marks}
use Rattle.mq_cover.specs.declared.remainder.Remainder.{Remainder}

-- the levels that `%c` and `%u` stand for, if any
pub record MarkLevels : Type 0 where
  pub client : Option (List ℕ)
  pub user : Option (List ℕ)

abbrev pub marks_view : Marks → MarkLevels
marks_view marks = record { client = option_copied marks.client; user = option_copied marks.user }

-- a level of a filter passes a level of a name; `%c` and `%u` stand for others in a `pattern` row
-- alone
abbrev pub passes : Bool → MarkLevels → List ℕ → List ℕ → Bool
passes pattern marks wanted level =
    if pattern && bytes_eq wanted (codes "%c") then is_user level marks.client
    else (if pattern && bytes_eq wanted (codes "%u") then is_user level marks.user
    else level_matches wanted level)

abbrev pub no_marks : MarkLevels
no_marks = record { client = None; user = None }

-- it covers a name of which these levels are left
abbrev pub covers : MarkLevels → List (List ℕ) → Remainder → Bool
covers marks ls r = levels_match_by (passes r.pattern marks) (levels_left r.rest) ls

-- each of the first covers it, and none of the others does
abbrev pub hits : MarkLevels → List (List ℕ) → List Remainder → List Remainder → Bool
hits marks ls must cover = list_all (covers marks ls) must && not (list_any (covers marks ls) cover)

-- each level of a filter passes the test, but for `+`, and `#` at the end
abbrev pub fits : (List ℕ → Bool) → List (List ℕ) → Bool
fits p [] = true
fits p (l ∷ ls) = (bytes_eq l (codes "+") || (bytes_eq l (codes "#") && (length ls == 0)) || p l)
    && fits p ls

abbrev pub remainder_fits : (List ℕ → Bool) → Remainder → Bool
remainder_fits p r = fits p (levels_left r.rest)

abbrev pub remainders_fit : (List ℕ → Bool) → List Remainder → Bool
remainders_fit p rs = list_all (remainder_fits p) rs

abbrev pub mark_passes : (List ℕ → Bool) → Option (List ℕ) → Bool
mark_passes p None = true
mark_passes p (Some level) = p level

abbrev pub marks_pass : (List ℕ → Bool) → MarkLevels → Bool
marks_pass p marks = mark_passes p marks.client && mark_passes p marks.user

-- no name that goes on with at most n levels is hit
abbrev pub FindsNothing : Start → ℕ → MarkLevels → List Remainder → List Remainder → Type 0
FindsNothing start n marks must cover = (ls : List (List ℕ)) → suits start ls ≡ true
    → length ls ≤ n → hits marks ls must cover ≡ false

-- a name that goes on with these levels, at most n, is hit
pub record IsFound (start : Start) (n : ℕ) (marks : MarkLevels) (must cover : List Remainder)
    (ls : List (List ℕ)) : Type 0 where
  pub suitable : suits start ls ≡ true
  pub few : length ls ≤ n
  pub hit : hits marks ls must cover ≡ true
  pub valid : list_all is_name_level ls ≡ true
