-- Levels of texts, and texts of levels.
use Rattle.std.specs.Prelude.{ℕ, List, [], ◌∷◌, ◌++◌, if◌then◌else◌, Option, Some, None}
use Rattle.std.specs.List.{flat_map}
use Rattle.mq_cover.specs.Names.{can_be_level}

-- the level that an id is, if it can be one
abbrev pub level_of : Option (List ℕ) → Option (List ℕ)
level_of None = None
level_of (Some text) = if can_be_level text then Some text else None

-- the levels with slashes between them
abbrev pub join_levels : List (List ℕ) → List ℕ
join_levels [] = []
join_levels (level ∷ levels) = level ++ flat_map (λ l. 47 ∷ l) levels
