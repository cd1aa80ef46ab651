use Rattle.mq_witness.specs.Rows.{lent_rows}
use Rattle.mq_lint.proofs.CaseLemmas.{none_of_both}
use Rattle.mq_lint.proofs.question.Question.meets.Goals as goal

pub returns-clause-none : goal.returns-clause-none
returns-clause-none c = λ none.
    none_of_both c.args.topics c.args.self.now.asked.now c.args.self.now.clients (lent_rows c.args.must.now)
    (lent_rows c.args.cover.now) (c.in_ok-meets_kind.ensures.none c.if-branch.false)
    (c.in_ok-begun.ensures.none none)
