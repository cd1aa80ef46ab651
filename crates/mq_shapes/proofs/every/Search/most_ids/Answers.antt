use Rattle.mq_unify.specs.Rows.{lent_rows}
use Rattle.mq_shapes.proofs.EveryLemmas.{every_id}
use Rattle.mq_shapes.proofs.ShortIdLemmas.{every_few}
use Rattle.mq_shapes.proofs.every.Search.most_ids.Goals as goal

pub returns-then-not-some_mark-clause-enough : goal.returns-then-not-some_mark-clause-enough
returns-then-not-some_mark-clause-enough c =
    let self = c.args.self.now in
    every_id self.start self.users.now (lent_rows self.must.now) (lent_rows self.cover.now)
    c.args.user c.most_levels-most.result c.most_levels-most.ensures.enough

pub returns-then-few-most-clause-enough : goal.returns-then-few-most-clause-enough
returns-then-few-most-clause-enough c =
    let self = c.args.self.now in
    every_few self.start c.args.user self.users.now (lent_rows self.must.now)
    (lent_rows self.cover.now) c.in-Some.few c.in-Some.ensures.some c.in-Some.ensures.enough

pub returns-else-few-most-clause-enough : goal.returns-else-few-most-clause-enough
returns-else-few-most-clause-enough c =
    let self = c.args.self.now in
    every_id self.start self.users.now (lent_rows self.must.now) (lent_rows self.cover.now)
    c.args.user c.most_levels-most.result c.most_levels-most.ensures.enough

pub returns-in-None-clause-enough : goal.returns-in-None-clause-enough
returns-in-None-clause-enough c =
    let self = c.args.self.now in
    every_id self.start self.users.now (lent_rows self.must.now) (lent_rows self.cover.now)
    c.args.user c.most_levels-most.result c.most_levels-most.ensures.enough
