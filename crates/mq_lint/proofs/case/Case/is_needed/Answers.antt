use Rattle.mq_acl.specs.Views.{row_view}
use Rattle.mq_lint.specs.Left.{left_of}
use Rattle.mq_lint.proofs.CaseLemmas.{needless_to}
use Rattle.mq_lint.proofs.case.Case.is_needed.Goals as goal

pub returns-clause-needless : goal.returns-clause-needless
returns-clause-needless c = λ none.
    let q = c.args.self.now.question in
    needless_to q.asked.now (left_of q.asked.now c.args.self.now.called.now) q.clients (row_view q.row.now)
    (c.in_ok-is_needed_in.ensures.needless c.if-branch.false)
    (c.in_ok-needed.ensures.needless none)
