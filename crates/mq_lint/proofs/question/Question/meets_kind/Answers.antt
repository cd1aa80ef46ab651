use Rattle.std.proofs.Common.{ap, not, ◌∙◌}
use Rattle.mq_witness.specs.Rows.{lent_rows}
use Rattle.mq_lint.proofs.CaseLemmas.{found_by}
use Rattle.mq_lint.proofs.question.Question.meets_kind.Goals as goal

pub returns-clause-found : goal.returns-clause-found
returns-clause-found c = λ _.
    found_by c.args.topics c.args.self.now.asked.now c.args.self.now.clients (lent_rows c.args.must.now)
    (lent_rows c.args.cover.now) c.in_ok-found.found (c.is_none.ensures ∙ ap not c.if-is_none.false)
    c.in_ok-found.ensures.some
