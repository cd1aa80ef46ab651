-- A script that is read.
use Rattle.std.specs.Prelude.{ℕ, List, ◌++◌}
use Rattle.mq_acl.specs.AccessLists.{AccessList}
use Rattle.mq_jsonl.specs.Lines.{whole_lines}
use Rattle.mq_jsonl.specs.Feeding.{Holds}
use Rattle.mq_reach.specs.Search.{IsSearched}
use Rattle.mq_reach.specs.declared.reading.Reading.{Reading}

-- the whole lines of what was given are searched, and what follows them is kept
pub record HoldsScript (list : AccessList) (given : List ℕ) (r : Reading) : Type 0 where
  pub searched : IsSearched list (whole_lines given) r.search
  pub line : Holds given r.feeder

-- more bytes are given, and the lines that they end are searched
unfoldable pub TakesBytes : AccessList → (old new : Reading) → List ℕ → Type 0
TakesBytes list old new bytes =
    (given : List ℕ) → HoldsScript list given old → HoldsScript list (given ++ bytes) new
