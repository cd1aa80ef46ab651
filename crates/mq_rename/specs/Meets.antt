-- The filter that two filters have in common.
use Rattle.std.specs.Prelude.{ℕ, Bool, true, false, List, [], ◌∷◌, ◌||◌, if◌then◌else◌}
use Rattle.std.specs.Prelude.{Option, Some, None}
use Rattle.std.specs.Option.{option_map}
use Rattle.std.specs.Str.{bytes_eq}
use Rattle.mq_topic.specs.Levels.{levels}
use Rattle.mq_topic.specs.Matching.{matches}
use Rattle.mq_rename.specs.Lists.{is_last_hash, is_plus}

-- the filter, if there is one, matches the name
abbrev pub matches_if_any : Option (List ℕ) → List ℕ → Bool
matches_if_any None name = false
matches_if_any (Some filter) name = matches (levels filter) (levels name)

-- the level that names have where both of these stand, if they can have one
abbrev pub met_level : List ℕ → List ℕ → Option (List ℕ)
met_level a b = if is_plus a then Some b else (if is_plus b || bytes_eq a b then Some a else None)

-- a name may end before these levels: `#` stands for no level, too
abbrev pub may_end : List (List ℕ) → Bool
may_end [] = true
may_end (level ∷ after) = is_last_hash level after

abbrev pub behind : Option (List ℕ) → Option (List (List ℕ)) → Option (List (List ℕ))
behind None after = None
behind (Some level) after = option_map (λ ls. level ∷ ls) after

-- the levels that two lists of levels have in common
abbrev pub met_levels : List (List ℕ) → List (List ℕ) → Option (List (List ℕ))
met_levels [] ys = if may_end ys then Some [] else None
met_levels (x ∷ xs) [] = if is_last_hash x xs then Some [] else None
met_levels (x ∷ xs) (y ∷ ys) =
    if is_last_hash x xs then Some (y ∷ ys)
    else (if is_last_hash y ys then Some (x ∷ xs)
    else behind (met_level x y) (met_levels xs ys))
