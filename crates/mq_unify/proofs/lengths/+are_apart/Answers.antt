use Rattle.std.proofs.Common.{subst, sym}
use Rattle.mq_unify.specs.Lengths.{AreApart}
use Rattle.mq_unify.proofs.LengthLemmas.{apart_first, apart_rest}
use Rattle.mq_unify.proofs.lengths.+are_apart.Goals as goal

pub returns-then-is_beyond : goal.returns-then-is_beyond
returns-then-is_beyond t c = λ yes.
    subst (λ some. AreApart some c.args.all.now) (sym c.in-Some.ensures.cases.0)
    (apart_first c.in-Some.first.now c.in-Some.rest.now c.args.all.now
    (c.is_beyond.ensures c.if-is_beyond.true))

pub returns : goal.returns
returns t c = λ yes.
    subst (λ some. AreApart some c.args.all.now) (sym c.in-Some.ensures.cases.0)
    (apart_rest c.in-Some.first.now c.in-Some.rest.now c.args.all.now (c.are_apart.ensures yes))
