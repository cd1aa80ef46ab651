use Rattle.std.proofs.Common.{◌+◌, arith}
use Rattle.mq_shapes.specs.Every.{with_levels}
use Rattle.mq_shapes.specs.Found.{FindsNone}
use Rattle.mq_unify.specs.Rows.{lent_rows}
use Rattle.mq_shapes.proofs.EveryLemmas.{one_more}
use Rattle.mq_shapes.proofs.every.Search.with_user.Goals as goal

pub loop-levels-preserved : goal.loop-levels-preserved
loop-levels-preserved c =
    let self = c.args.self.now in
    one_more (λ count. FindsNone self.start (with_levels count c.args.user) self.users.now
    (lent_rows self.must.now) (lent_rows self.cover.now)) c.loop-levels.levels
    c.loop-levels.invariant (rw c.in_default.is at c.in_ok-found.ensures.none)

pub returns-clause-none : goal.returns-clause-none
returns-clause-none c = c.most_ids-levels-end.ensures.enough (λ count some low.
    c.loop-levels.invariant count some (omega (arith, c.loop-levels-test.false, low)))

pub returns-in-Some-clause-some : goal.returns-in-Some-clause-some
returns-in-Some-clause-some c = record {
  count = c.loop-levels.levels + 1;
  few = omega (arith, c.most_ids-levels-end.ensures.few, c.loop-levels-test.true);
  is = rw c.in-Some.is at c.in_ok-found.ensures.some;
}
