-- The left side of a rule, with what a filter demands of new names.
use Rattle.std.specs.Prelude.{◌≡◌, ℕ, true, false, List, ◌||◌, if◌then◌else◌, slice_set}
use Rattle.std.specs.Prelude.{Option, Some, None}
use Rattle.std.specs.Option.{option_map}
use Rattle.mq_topic.specs.Matching.{is_wildcard, level_at, level_matches}
use Rattle.mq_rename.specs.Lists.{are_fit, has_long, is_plus, levels_match}
use Rattle.mq_rename.specs.Meets.{met_level}
use Rattle.mq_rename.specs.Renames.{new_levels}

-- the levels on the left, where a level on the right with this place has to be the one wanted
abbrev pub bind : List (List ℕ) → List ℕ → ℕ → List ℕ → Option (List (List ℕ))
bind bound level place wanted =
    if is_plus level then
    option_map (λ l. slice_set bound place l) (met_level (level_at bound place) wanted)
    else (if level_matches wanted level then Some bound else None)

-- of the names that the left side matches, these levels match those whose new names the filter
-- matches
pub record IsBound (left right : List (List ℕ)) (places : List ℕ) (filter bound : List (List ℕ)) :
    Type 0 where
  pub same : (n : List (List ℕ)) → levels_match left n ≡ true
      → levels_match filter (new_levels left right places n) ≡ levels_match bound n
  pub fit : are_fit bound ≡ true
  pub long : has_long bound ≡ true → (has_long left || has_long filter) ≡ true
  pub front : is_wildcard (level_at bound 0) ≡ true → is_wildcard (level_at left 0) ≡ true

-- without such levels, the filter matches no new name
abbrev pub IsBoundIfAny : List (List ℕ) → List (List ℕ) → List ℕ → List (List ℕ)
    → Option (List (List ℕ)) → Type 0
IsBoundIfAny left right places filter None = (n : List (List ℕ)) → levels_match left n ≡ true
    → levels_match filter (new_levels left right places n) ≡ false
IsBoundIfAny left right places filter (Some bound) = IsBound left right places filter bound
