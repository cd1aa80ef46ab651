-- Two texts in each other's place.
use Rattle.std.specs.Prelude.{ℕ, Bool, List, map, ◌&&◌, not, if◌then◌else◌, Option}
use Rattle.std.specs.Str.{bytes_eq}
use Rattle.std.specs.Option.{option_map}
use Rattle.mq_topic.specs.Levels.{levels}
use Rattle.mq_witness.specs.Texts.{join_levels}

abbrev pub swap : List ℕ → List ℕ → List ℕ → List ℕ
swap a b text = if bytes_eq text a then b else (if bytes_eq text b then a else text)

abbrev pub swap_user : List ℕ → List ℕ → Option (List ℕ) → Option (List ℕ)
swap_user a b user = option_map (swap a b) user

-- level by level
abbrev pub swap_name : List ℕ → List ℕ → List ℕ → List ℕ
swap_name a b name = join_levels (map (swap a b) (levels name))

-- neither of the two
abbrev pub is_apart : List ℕ → List ℕ → List ℕ → Bool
is_apart a b text = not (bytes_eq text a) && not (bytes_eq text b)
