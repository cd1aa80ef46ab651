-- A tree seen as the list of its entries, each a key and its value.
use Rattle.std.specs.Prelude.{ℕ, Bool, List}
use Rattle.std.specs.BTreeMap.{is_at}
use Rattle.std.specs.Map.{keys_of}
use Rattle.std.specs.List.Sorted.{IsStrictlySortedBy}
use Rattle.mq_topic.specs.Levels.{level_order}

-- the entries of a tree: each key, a list of levels, with its value
abbrev pub Entries : Type 0 → Type 0
Entries V = List (List (List ℕ) × V)

-- the test for a key
abbrev pub is_key : List (List ℕ) → List (List ℕ) → Bool
is_key key = is_at (level_order key)

-- the keys stand in level order, each once
abbrev pub AreInOrder : {V : Type 0} → Entries V → Type 0
AreInOrder es = IsStrictlySortedBy level_order (keys_of es)
