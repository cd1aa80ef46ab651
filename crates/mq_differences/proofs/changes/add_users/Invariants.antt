use Rattle.mq_differences.proofs.ChangeLemmas.{AreUsersDone}
use Rattle.mq_differences.proofs.changes.add_users.Given as goal

-- all is shown of the clients of the first names
abbrev pub invariant-loop-user : goal.invariant-loop-user
invariant-loop-user l = AreUsersDone l.lists l.user-items l.user-index
    l.fn.report.differences.items l.report.differences.items
