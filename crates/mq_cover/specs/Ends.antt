-- Where a walk ends.
use Rattle.std.specs.Prelude.{ℕ, Bool, false, List, [], ◌∷◌, length, codes, ◌&&◌, ◌==◌}
use Rattle.std.specs.Str.{bytes_eq}
use Rattle.mq_topic.specs.Levels.{levels_left}
use Rattle.mq_cover.specs.declared.remainder.Remainder.{Remainder}

abbrev pub is_hash : List (List ℕ) → Bool
is_hash [] = false
is_hash (l ∷ ls) = bytes_eq l (codes "#") && (length ls == 0)

-- nothing but `#` is left
abbrev pub is_open : Remainder → Bool
is_open r = is_hash (levels_left r.rest)
