-- The path that a walk finds.
use Rattle.std.specs.Prelude.{ℕ, List, map, reverse}
use denote.Ref.{Bor}
use Rattle.mq_cover.specs.declared.path.Path.{Path}

-- the levels of a path, which has the last one first
abbrev pub path_levels : List (Bor (List ℕ)) → List (List ℕ)
path_levels path = reverse (map (λ level. level.now) path)

abbrev pub levels_of : Path → List (List ℕ)
levels_of path = path_levels path.levels.items
