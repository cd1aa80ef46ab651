use Rattle.std.proofs.Common.{◌-◌, [], arith, ap, sym, ◌∙◌}
use Rattle.std.proofs.lemmas.Option.{get_or_from_slice_get}
use Rattle.mq_topic.specs.Levels.{levels}
use Rattle.mq_topic.specs.Matching.{level_at}
use Rattle.mq_topic.proofs.Walk.{levels-nonempty}
use Rattle.mq_rename.specs.Lists.{is_hash}
use Rattle.mq_rename.proofs.rename.ends_with_hash.Goals as goal

pub overflow_sub-level_count : goal.overflow_sub-level_count
overflow_sub-level_count c = omega (arith, levels-nonempty c.args.filter.now)

pub level-requires : goal.level-requires
level-requires c = omega (arith, levels-nonempty c.args.filter.now)

pub returns : goal.returns
returns c =
    let all = levels c.args.filter.now in
    c.eq.ensures
    ∙ ap is_hash (sym (get_or_from_slice_get all (c.level_count.result - 1) c.level.result.now []
    c.level.ensures))
    ∙ ap (λ n. is_hash (level_at all (n - 1))) c.level_count.ensures
