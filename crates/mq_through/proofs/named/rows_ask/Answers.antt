use Rattle.std.proofs.Common.{sym, ◌∙◌}
use Rattle.mq_differences.proofs.JudgeLemmas.{any_views}
use Rattle.mq_through.specs.Named.{asks_client}
use Rattle.mq_through.proofs.named.rows_ask.Goals as goal

pub returns : goal.returns
returns c = c.has_asking.ensures ∙ sym (any_views asks_client c.args.rows.now)
