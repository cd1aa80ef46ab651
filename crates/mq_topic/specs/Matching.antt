-- Which filters match which names (MQTT 5.0, sections 4.7.1 and 4.7.2).
use Rattle.std.specs.Prelude.{ℕ, Bool, List, [], length, ◌==◌, ◌-◌, ◌&&◌, ◌||◌, not, take}
use Rattle.std.specs.Prelude.{if◌then◌else◌, codes, slice_index, slice_index_or}
use Rattle.std.specs.Cmp.Lexicographic.{pointwise}
use Rattle.std.specs.Str.{bytes_eq}
use Rattle.mq_topic.specs.Texts.{parents}

-- the level at a place, and the empty one past the end
abbrev pub level_at : List (List ℕ) → ℕ → List ℕ
level_at ls i = slice_index_or ls i []

abbrev pub is_wildcard : List ℕ → Bool
is_wildcard level = bytes_eq level (codes "+") || bytes_eq level (codes "#")

-- a level of a filter matches a level of a name
abbrev pub level_matches : List ℕ → List ℕ → Bool
level_matches wanted level = bytes_eq wanted (codes "+") || bytes_eq wanted level

-- the last level is `#`
abbrev pub ends_with_hash : List (List ℕ) → Bool
ends_with_hash filter = bytes_eq (level_at filter (length filter - 1)) (codes "#")

-- as many levels, and each passes the test with the one at its place; or `#` follows levels that pass it with the front of the name
abbrev pub levels_match_by : (List ℕ → List ℕ → Bool) → List (List ℕ) → List (List ℕ) → Bool
levels_match_by test filter name =
    if ends_with_hash filter then pointwise test (parents filter) (take (length filter - 1) name)
    else pointwise test filter name

-- a name that begins with `$` is not matched by a filter that begins with a wildcard
abbrev pub is_hidden : List (List ℕ) → List (List ℕ) → Bool
is_hidden filter name = slice_index (level_at name 0) 0 == 36 && is_wildcard (level_at filter 0)

-- the filter with these levels matches the name with those
abbrev pub matches : List (List ℕ) → List (List ℕ) → Bool
matches filter name = not (length name == 0) && not (is_hidden filter name)
    && levels_match_by level_matches filter name
