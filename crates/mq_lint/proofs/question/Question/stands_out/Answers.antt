use Rattle.mq_acl.specs.Views.{row_view}
use Rattle.mq_lint.proofs.CaseLemmas.{row_asked}
use Rattle.mq_lint.proofs.question.Question.stands_out.Goals as goal

pub meets-requires-clause-must : goal.meets-requires-clause-must
meets-requires-clause-must c =
    let q = c.args.self.now in row_asked q.rules q.asked.now q.clients (row_view q.row.now) q.can_ask
