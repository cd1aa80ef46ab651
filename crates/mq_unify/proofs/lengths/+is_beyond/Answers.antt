use Rattle.std.proofs.Common.{refl, subst, sym}
use Rattle.mq_unify.specs.Lengths.{IsBeyond}
use Rattle.mq_unify.specs.Terms.{shape_of}
use Rattle.mq_unify.proofs.LengthLemmas.{beyond_first, beyond_rest}
use Rattle.mq_unify.proofs.lengths.+is_beyond.Goals as goal

pub returns-then-is_longer : goal.returns-then-is_longer
returns-then-is_longer t c = λ yes.
    subst (λ all. IsBeyond (shape_of c.args.one.now) all) (sym c.in-Some.ensures.cases.0)
    (beyond_first (shape_of c.args.one.now) (shape_of c.in-Some.first.now) c.in-Some.first.now
    c.in-Some.rest.now refl (c.is_longer.ensures c.if-is_longer.true))

pub returns : goal.returns
returns t c = λ yes.
    subst (λ all. IsBeyond (shape_of c.args.one.now) all) (sym c.in-Some.ensures.cases.0)
    (beyond_rest (shape_of c.args.one.now) c.in-Some.first.now c.in-Some.rest.now
    (c.is_beyond.ensures yes))
