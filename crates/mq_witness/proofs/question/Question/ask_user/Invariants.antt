use Rattle.std.specs.Option.{option_copied}
use Rattle.mq_witness.specs.Answers.{Misses}
use Rattle.mq_witness.proofs.TryLemmas.{AllLeft, AllOf}
use Rattle.mq_witness.proofs.question.Question.ask_user.Given as goal

-- where those that are left miss, all do
abbrev pub invariant-loop-client : goal.invariant-loop-client
invariant-loop-client l =
    AllLeft (λ t. Misses l.self t (option_copied l.level)) l.client-items l.client-index
    → AllOf (λ t. Misses l.self t (option_copied l.level)) l.client-items
