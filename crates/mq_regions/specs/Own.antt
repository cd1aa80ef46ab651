-- Levels that stand for themselves.
use Rattle.std.specs.Prelude.{ℕ, Bool, List, ◌&&◌, not, codes}
use Rattle.std.specs.Str.{bytes_eq}
use Rattle.mq_topic.specs.Matching.{is_wildcard}

-- neither a wildcard nor the user name
abbrev pub is_own : List ℕ → Bool
is_own level = not (is_wildcard level) && not (bytes_eq level (codes "%u"))
