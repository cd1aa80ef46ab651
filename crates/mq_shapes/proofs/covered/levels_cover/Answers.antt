use Rattle.std.proofs.Common.{◌∙◌, ap, sym}
use Rattle.mq_topic.specs.Levels.{levels_left}
use Rattle.mq_shapes.proofs.CoveredLemmas.{fit_behind, hash_covers, more_cover, slash_free}
use Rattle.mq_shapes.proofs.covered.levels_cover.Goals as goal

pub returns-then-is_last_hash : goal.returns-then-is_last_hash
returns-then-is_last_hash c = λ t.
    c.loop-others.invariant.2 (hash_covers c.args.wide c.args.narrow
    c.split_first.result.0.now (levels_left c.split_first.result.1)
    (levels_left c.loop-others.ones) (levels_left c.loop-others.others)
    (ap levels_left c.in-Some.is ∙ c.split_first.ensures)
    (sym c.is_last_hash.ensures ∙ c.if-is_last_hash.true))

pub level_covers-requires : goal.level_covers-requires
level_covers-requires c = slash_free c.in-Some-ones.one.now
    c.split_first-in-Some.result.0.now (levels_left c.split_first-in-Some.result.1)
    c.split_first-in-Some.ensures

pub loop-others-preserved : goal.loop-others-preserved
loop-others-preserved c =
    let w = c.split_first.result.0.now in
    let ws = levels_left c.split_first.result.1 in
    let l = c.split_first-in-Some.result.0.now in
    let ms = levels_left c.split_first-in-Some.result.1 in
    let all = levels_left c.loop-others.others in
    let every = levels_left c.loop-others.ones in
    let other = ap levels_left c.in-Some.is ∙ c.split_first.ensures in
    let one = ap levels_left c.in-Some-ones.is ∙ c.split_first-in-Some.ensures in
    let so_far = c.loop-others.invariant in (
      fit_behind w ws all other so_far.0,
      fit_behind l ms every one so_far.1,
      λ rest. so_far.2 (more_cover c.args.wide c.args.narrow w l ws ms all every other one
          so_far.0 so_far.1 (sym c.is_last_hash.ensures ∙ c.if-is_last_hash.false)
          (sym c.is_last_hash-in-Some.ensures ∙ c.if-is_last_hash-2.false)
          (c.level_covers.ensures c.if-not-level_covers.false) rest),
    )
