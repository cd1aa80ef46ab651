use Rattle.std.proofs.Common.{sym, ◌∙◌}
use Rattle.mq_witness.specs.Rows.{is_name_of}
use Rattle.mq_differences.proofs.JudgeLemmas.{any_views}
use Rattle.mq_who.proofs.judge.names_user.Goals as goal

pub returns : goal.returns
returns c = c.has_user.ensures
    ∙ sym (any_views (λ row. is_name_of c.args.name.now row.who) c.args.rows.now)
