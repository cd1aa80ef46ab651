-- Of which ways is asked.
use Rattle.std.specs.Prelude.{ℕ, Bool, List, None, Option, Some, codes, true, ◌==◌}
use Rattle.std.specs.Prelude.{if◌then◌else◌}
use Rattle.mq_differences.specs.Differences.{same_way}
use Rattle.mq_differences.specs.declared.way.Way.{Way}
use Rattle.mq_differences.specs.declared.way.Way.TheVariants.{Gained, Lost}

-- it is asked of this way: of both, where none is named
abbrev pub is_way : (only : Option Way) → Way → Bool
is_way None way = true
is_way (Some only) way = same_way only way

-- the word for it
abbrev pub way_text : Way → List ℕ
way_text Gained = codes "gained"
way_text Lost = codes "lost"

-- what so many differences are, where of this way alone or of both is asked
abbrev pub rows_word : (count : ℕ) → (only : Option Way) → List ℕ
rows_word count None = if count == 1 then codes "difference" else codes "differences"
rows_word count (Some way) = way_text way
