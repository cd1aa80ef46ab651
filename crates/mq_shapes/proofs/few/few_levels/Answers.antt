use Rattle.std.proofs.Common.{subst}
use Rattle.mq_unify.specs.Rows.{lent_rows}
use Rattle.mq_shapes.specs.Few.{ArePlaced, AreWithin}
use Rattle.mq_shapes.proofs.ShortIdLemmas.{few_enough}
use Rattle.mq_shapes.proofs.few.few_levels.Goals as goal

pub returns-clause-enough : goal.returns-clause-enough
returns-clause-enough c =
    let must = lent_rows c.args.must.now in
    let cover = lent_rows c.args.cover.now in
    let place = c.in_ok-place.place in
    let known = c.in_ok-known.ensures in
    few_enough c.args.user must cover place c.in_ok-most_must.most_must
    c.in_ok-most_cover.most_cover c.requires
    (subst (λ n. ArePlaced n place must) known (c.are_placed.ensures c.if-not-are_placed.false))
    (subst (λ n. AreWithin n c.in_ok-most_must.most_must must) known c.in_ok-most_must.ensures)
    (subst (λ n. AreWithin n c.in_ok-most_cover.most_cover cover) known c.in_ok-most_cover.ensures)
    c.reach.result c.reach.ensures.some c.reach.ensures.must c.reach.ensures.cover
