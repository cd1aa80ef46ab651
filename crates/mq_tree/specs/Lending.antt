-- What becomes of a tree once a value that it lent comes back.
use Rattle.std.specs.Prelude.{◌≡◌, ℕ, List, Option, OnSome}
use Rattle.std.specs.Borrow.{LendsSo, MutBor, Fml}
use Rattle.std.specs.Map.{set_value}
use denote.RattleType.{RattleType}
use Rattle.mq_tree.specs.Entries.{Entries, is_key}
use Rattle.mq_tree.specs.contracts.tree.LevelTree.{the_row}

-- the tree ends with the last value behind r at the key, and as it was if r is `None`
abbrev pub LendsAt : (V : RattleType) → MutBor (Entries V.Denot) → List (List ℕ)
    → Option (MutBor V.Denot) → Fml
LendsAt V s k r = LendsSo (the_row V) V s r (λ n w. OnSome r (n ≡ set_value (is_key k) s.now w))
    (λ n. n ≡ s.now)
