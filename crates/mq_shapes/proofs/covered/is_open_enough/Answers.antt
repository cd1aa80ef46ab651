use Rattle.std.proofs.Common.{◌∙◌, ap, bytes_eq, codes, sym}
use Rattle.std.proofs.lemmas.Bool.{not-false}
use Rattle.mq_topic.proofs.ByteLemmas.{text_is}
use Rattle.mq_topic.specs.Levels.{levels, levels_left}
use Rattle.mq_shapes.proofs.CoveredLemmas.{fit_behind}
use Rattle.mq_shapes.proofs.OpenLemmas.{hash_open, open_covers, plus_open}
use Rattle.mq_shapes.proofs.covered.is_open_enough.Goals as goal

pub returns-then-is_last_hash : goal.returns-then-is_last_hash
returns-then-is_last_hash c = λ t.
    open_covers (levels c.args.other.now) (levels c.args.one.now)
    (c.loop-others.invariant.1 (hash_open c.split_first.result.0.now
    (levels_left c.split_first.result.1) (levels_left c.loop-others.ones)
    (levels_left c.loop-others.others) (ap levels_left c.in-Some.is ∙ c.split_first.ensures)
    (sym c.is_last_hash.ensures ∙ c.if-is_last_hash.true)))

pub loop-others-preserved : goal.loop-others-preserved
loop-others-preserved c =
    let w = c.split_first.result.0.now in
    let ws = levels_left c.split_first.result.1 in
    let l = c.split_first-in-Some.result.0.now in
    let ms = levels_left c.split_first-in-Some.result.1 in
    let every = levels_left c.loop-others.ones in
    let one = ap levels_left c.in-Some-ones.is ∙ c.split_first-in-Some.ensures in
    let plus = not-false (bytes_eq w (codes "+")) (sym c.ne.ensures ∙ c.if-ne.false) in
    let so_far = c.loop-others.invariant in (
      fit_behind l ms every one so_far.0,
      λ rest. so_far.1 (plus_open w l ws ms (levels_left c.loop-others.others) every
          (ap levels_left c.in-Some.is ∙ c.split_first.ensures) one (text_is w (codes "+") plus)
          so_far.0 (sym c.is_last_hash-else-ne.ensures ∙ c.if-is_last_hash-2.false) rest),
    )
