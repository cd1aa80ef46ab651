use Rattle.mq_acl.specs.ByOwner.{IsGrouped}
use Rattle.mq_acl.specs.Views.{row_who}
use Rattle.mq_differences.proofs.by_owner.by_user.Given as goal

abbrev pub invariant-loop-row : goal.invariant-loop-row
invariant-loop-row l = IsGrouped (λ m. row_who m.row.now) l.yielded l.all
