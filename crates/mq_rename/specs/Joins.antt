-- Texts of lists of levels.
use Rattle.std.specs.Prelude.{ℕ, List, length, take, ◌==◌, ◌&&◌, if◌then◌else◌}
use Rattle.mq_topic.specs.Matching.{level_at}
use Rattle.mq_rename.specs.Lists.{is_hash}

-- without a `#` behind 200 levels, which stands for no level of a name
abbrev pub within_reach : List (List ℕ) → List (List ℕ)
within_reach ls = if (length ls == 201) && is_hash (level_at ls 200) then take 200 ls else ls
