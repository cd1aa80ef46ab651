use Rattle.std.proofs.Common.{ap, ◌∙◌}
use Rattle.mq_tree.specs.Below.{is_before, plus}
use Rattle.mq_tree.proofs.Levels.{before_byte}
use Rattle.mq_tree.proofs.lookup.comes_before_plus.Goals as goal

pub returns-in-len1-up : goal.returns-in-len1-up
returns-in-len1-up c =
    before_byte c.as_bytes.result.now 43 c.in-len1-up.len_at_least
    ∙ ap (λ l. is_before l plus) c.as_bytes.ensures.value
