use Rattle.std.proofs.Common.{◌≡◌, ℕ, List, ◌||◌, drop}
use Rattle.mq_witness.specs.Literals.{is_named, is_literal_of}
use Rattle.mq_witness.proofs.literals.Literals.add_remainders.Given as goal

-- the rows that are left add what all of them do
abbrev pub invariant-loop-remainder : goal.invariant-loop-remainder
invariant-loop-remainder l = (t : List ℕ)
    → (is_named t l.self || is_literal_of t (drop l.remainder-index l.remainders))
    ≡ (is_named t l.fn.self || is_literal_of t l.remainders)
