-- What is asked of rows.
use Rattle.std.specs.Prelude.{ℕ, Bool, false, List, [], ◌∷◌, ◌&&◌, ◌||◌, not, codes, Option}
use Rattle.std.specs.List.{list_any, list_all}
use Rattle.std.specs.Str.{bytes_eq}
use Rattle.mq_topic.specs.Levels.{levels}
use Rattle.mq_topic.specs.Matching.{levels_match_by}
use Rattle.mq_acl.specs.Access.{applies, begins_with_dollar, concerns, row_level_matches}
use Rattle.mq_acl.specs.Rows.{AclRow}
use Rattle.mq_acl.specs.RowsByOwner.{is_everyones}

-- each of the first rows concerns it, and none of the others does
abbrev pub decides : List ℕ → Option (List ℕ) → List ℕ → (must cover : List AclRow) → Bool
decides client user name must cover =
    list_all (concerns client user name) must && not (list_any (concerns client user name) cover)

-- ---- a text at the front, in the place of a mark
abbrev pub is_mark : List ℕ → Bool
is_mark level = bytes_eq level (codes "%c") || bytes_eq level (codes "%u")

abbrev pub first_is_mark : List (List ℕ) → Bool
first_is_mark [] = false
first_is_mark (level ∷ behind) = is_mark level

-- the first level of a `pattern` row is a mark
abbrev pub begins_with_mark : AclRow → Bool
begins_with_mark row = is_everyones row.who && first_is_mark (levels row.filter)

-- the row may cover a name that begins with `$`: it begins so as it is written, or, where the text in the place of a mark
-- counts, with a mark
abbrev pub may_begin : Bool → AclRow → Bool
may_begin front row = (front && begins_with_mark row) || begins_with_dollar row.filter

-- the row concerns it, where a text in the place of a mark counts for the rule on `$`, or doesn't
abbrev pub concerns_in : Bool → List ℕ → Option (List ℕ) → List ℕ → AclRow → Bool
concerns_in front client user name row = applies user row.who
    && ((not (begins_with_dollar name) || may_begin front row)
    && levels_match_by (row_level_matches row.who client user) (levels row.filter) (levels name))

abbrev pub decides_in : Bool → List ℕ → Option (List ℕ) → List ℕ → (must cover : List AclRow)
    → Bool
decides_in front client user name must cover = list_all (concerns_in front client user name) must
    && not (list_any (concerns_in front client user name) cover)
