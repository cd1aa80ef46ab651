use Rattle.std.proofs.Common.{◌≡◌, ℕ, List, ◌∷◌, take}
use Rattle.std.specs.List.{list_all}
use Rattle.mq_cover.specs.Remainders.{marks_view, covers}
use Rattle.mq_cover.proofs.choice.demanded.Given as goal

-- the first filters go on with all levels alike
abbrev pub invariant-loop-remainder : goal.invariant-loop-remainder
invariant-loop-remainder l = (a b : List ℕ) (ls : List (List ℕ))
    → list_all (covers (marks_view l.marks) (a ∷ ls)) (take l.remainder-index l.must)
    ≡ list_all (covers (marks_view l.marks) (b ∷ ls)) (take l.remainder-index l.must)
