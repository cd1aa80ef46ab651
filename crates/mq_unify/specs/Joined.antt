-- Texts of levels that are joined.
use Rattle.std.specs.Prelude.{◌≡◌, ◌<◌, ℕ, List, [], ◌∷◌, ◌++◌, Option, Some, None, String, string_bytes}
use Rattle.std.specs.List.{flat_map}
use Rattle.std.specs.Option.{option_map}
use Rattle.std.specs.declared.alloc.Global.{Global}
use Rattle.mq_unify.specs.Clients.{values_from}
use Rattle.mq_unify.specs.declared.shape.ClientShape.{ClientShape}
use Rattle.mq_unify.specs.declared.shape.UserShape.{UserShape}
use Rattle.mq_unify.specs.declared.shape.UserShape.TheVariants.{Absent, Known, Levels}

-- the levels with slashes between them
abbrev pub join_levels : List (List ℕ) → List ℕ
join_levels [] = []
join_levels (level ∷ levels) = level ++ flat_map (λ l. 47 ∷ l) levels

abbrev pub user_view : Option (String Global) → Option (List ℕ)
user_view user = option_map string_bytes user

-- the user name has some level
abbrev pub HasLevels : UserShape → Type 0
HasLevels Absent = Unit {0}
HasLevels (Known name) = Unit {0}
HasLevels (Levels count) = 0 < count

-- the user name of these clients that these values make
abbrev pub user_made : UserShape → ℕ → (ℕ → List ℕ) → Option (List ℕ)
user_made Absent first values = None
user_made (Known name) first values = Some name.now
user_made (Levels count) first values = Some (join_levels (values_from values first count))

abbrev pub IsUserOf : ClientShape → (ℕ → List ℕ) → Option (List ℕ) → Type 0
IsUserOf shape values user = user ≡ user_made shape.user shape.levels values
