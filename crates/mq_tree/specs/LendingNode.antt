-- What becomes of a node once a value that it lent comes back.
use Rattle.std.specs.Prelude.{◌≡◌, ◌≢◌, ◌⊎◌, ℕ, List, [], Option, OnSome}
use Rattle.std.specs.BTreeMap.{insert_entry}
use Rattle.std.specs.Borrow.{LendsSo, MutBor, Fml}
use Rattle.std.specs.Map.{set_value}
use denote.RattleType.{RattleType}
use Rattle.mq_topic.specs.Levels.{level_order}
use Rattle.mq_tree.specs.Entries.{Entries, is_key}
use Rattle.mq_tree.specs.Nodes.{NodeView, entries_of}
use Rattle.mq_tree.specs.contracts.tree.node.Node.{the_row}

-- v is put at the key k, or nothing is done
abbrev pub PutsAtMost : {V : Type 0} → List (List ℕ) → V → Entries V → Entries V → Type 0
PutsAtMost k v old new = (new ≡ insert_entry level_order old k v) ⊎ (new ≡ old)

-- the node's entries end with the last value behind r at the key, and as they were if r is `None`; a node with an entry keeps one, and its keys stay in order
abbrev pub LendsIn : (V : RattleType) → MutBor (NodeView V.Denot) → List (List ℕ)
    → Option (MutBor V.Denot) → Fml
LendsIn V s k r =
    LendsSo (the_row V) V s r
    (λ n w. OnSome r (entries_of n ≡ set_value (is_key k) (entries_of s.now) w)
    × (entries_of s.now ≢ [] → entries_of n ≢ [])
    × PutsAtMost k w (entries_of s.now) (entries_of n))
    (λ n. entries_of n ≡ entries_of s.now)
