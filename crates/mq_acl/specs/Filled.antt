-- The filter of a `pattern` line with the texts of a client in the place of its marks, as mosquitto 2.0 makes it.
use Rattle.std.specs.Prelude.{ℕ, List, [], ◌∷◌, ◌++◌, ◌==◌, ◌&&◌, if◌then◌else◌}

-- the client id in the place of each `%c`, and the user name in the place of each `%u`, wherever they stand
abbrev pub filled : (client user : List ℕ) → List ℕ → List ℕ
filled client user [] = []
filled client user (a ∷ []) = a ∷ []
filled client user (a ∷ b ∷ rest) =
    if a == 37 && b == 99 then client ++ filled client user rest
    else (if a == 37 && b == 117 then user ++ filled client user rest
    else a ∷ filled client user (b ∷ rest))
