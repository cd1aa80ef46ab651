use Rattle.std.proofs.Common.{◌≡◌, false, Some}
use Rattle.mq_witness.specs.Answers.{MissesUser}
use Rattle.mq_witness.specs.Literals.{is_named}
use Rattle.mq_witness.proofs.TryLemmas.{AllLeft, AllOf}
use Rattle.mq_witness.proofs.question.Question.ask_others.Given as goal

-- where those that are left miss, all do
abbrev pub invariant-loop-user : goal.invariant-loop-user
invariant-loop-user l =
    AllLeft (λ t. is_named t l.users ≡ false → MissesUser l.self (Some t)) l.user-items l.user-index
    → AllOf (λ t. is_named t l.users ≡ false → MissesUser l.self (Some t)) l.user-items
