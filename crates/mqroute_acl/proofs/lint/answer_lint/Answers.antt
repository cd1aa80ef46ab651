use Rattle.std.proofs.Common.{inr}
use Rattle.mqroute_acl.proofs.lint.answer_lint.Goals as goal

pub returns-in-None-clause-ok : goal.returns-in-None-clause-ok
returns-in-None-clause-ok g c = (
  rw c.in_ok-outcome.ensures.ok c.in_ok-linted.ensures.ok,
  rw c.in-None.is at c.in_ok-linted.ensures.taken,
)

pub returns-in-Some-clause-unread : goal.returns-in-Some-clause-unread
returns-in-Some-clause-unread g c = λ two. inr (rw c.in-Some.is at c.in_ok-linted.ensures.taken)
