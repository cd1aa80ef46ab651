-- How many nodes there are, and the number that is kept of them.
use Rattle.std.specs.Prelude.{◌≡◌, ℕ, ◌+◌, ◌<◌, length}
use Rattle.std.specs.Map.{keys_of}
use Rattle.mq_topic.specs.Prefixes.{capped, prefixes}
use Rattle.mq_tree.specs.Entries.{Entries, AreInOrder}

-- how many nodes these entries have below a root
abbrev pub nodes_of : {V : Type 0} → Entries V → ℕ
nodes_of es = length (prefixes (keys_of es))

-- from old to new, a count has gone up by how many more many are than few, as far as a u64 goes
abbrev pub CountsMore : ℕ → ℕ → ℕ → ℕ → Type 0
CountsMore old new few many = (k : ℕ) × (many ≡ few + k) × (capped new ≡ capped (old + k))

-- the number that is kept is n, unless it has come to u64::MAX
abbrev pub Tells : ℕ → ℕ → Type 0
Tells kept n = kept < 18446744073709551615 → kept ≡ n

-- the keys stand in level order, and the number that is kept is that of the nodes
pub record IsCounted {V : Type 0} (es : Entries V) (kept : ℕ) : Type 0 where
  pub ordered : AreInOrder es
  pub counted : Tells kept (nodes_of es)
