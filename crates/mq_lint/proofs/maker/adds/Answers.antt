use Rattle.mq_acl.specs.Views.{row_view}
use Rattle.mq_acl.specs.declared.access.Direction.TheVariants.{Reading, Writing}
use Rattle.mq_lint.proofs.MakerLemmas.{adds_neither}
use Rattle.mq_lint.proofs.maker.adds.Goals as goal

pub returns-then-branch-clause-some : goal.returns-then-branch-clause-some
returns-then-branch-clause-some c = λ _.
    (Reading, c.in_ok-adds_in.ensures.some c.if-branch.true)

pub returns-clause-some : goal.returns-clause-some
returns-clause-some c = λ found. (Writing, c.in_ok-writing.ensures.some found)

pub returns-clause-none : goal.returns-clause-none
returns-clause-none c = λ none.
    let q = c.args.question.now in
    adds_neither q.asked.now q.clients (row_view q.row.now) (row_view c.args.other.now)
    (c.in_ok-adds_in.ensures.none c.if-branch.false) (c.in_ok-writing.ensures.none none)
