use Rattle.std.proofs.Common.{◌≡◌, ℕ, List, ◌||◌, length}
use Rattle.mq_topic.specs.Levels.{levels, levels_left}
use Rattle.mq_witness.specs.Literals.{is_named, is_literal_in}
use Rattle.mq_witness.proofs.literals.Literals.add_levels.Given as goal

-- the levels that are left add what all of them do
abbrev pub invariant-loop-rest : goal.invariant-loop-rest
invariant-loop-rest l = (t : List ℕ) → (is_named t l.self || is_literal_in t (levels_left l.rest))
    ≡ (is_named t l.fn.self || is_literal_in t (levels l.fn.text))

abbrev pub decreases-loop-rest : goal.decreases-loop-rest
decreases-loop-rest l = length (levels_left l.rest)
