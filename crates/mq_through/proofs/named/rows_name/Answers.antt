use Rattle.std.proofs.Common.{sym, ◌∙◌}
use Rattle.mq_differences.proofs.JudgeLemmas.{any_views}
use Rattle.mq_witness.specs.Rows.{row_names}
use Rattle.mq_through.proofs.named.rows_name.Goals as goal

pub returns : goal.returns
returns c = c.has_name.ensures ∙ sym (any_views (row_names c.args.text.now) c.args.rows.now)
