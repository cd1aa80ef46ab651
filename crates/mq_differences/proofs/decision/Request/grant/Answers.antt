use Rattle.std.proofs.Common.{ap, sym, ◌∙◌}
use Rattle.std.specs.Option.{option_copied, option_or}
use Rattle.mq_differences.proofs.DeciderLemmas.{copied_or, grant_ranks}
use Rattle.mq_differences.proofs.decision.Request.grant.Goals as goal

pub returns : goal.returns
returns c =
    ap option_copied c.or.ensures ∙ (copied_or c.first_at.result c.first_at-2.result
    ∙ ((λ i. option_or (c.first_at.ensures i) (c.first_at-2.ensures i))
    ∙ sym (grant_ranks c.args.self.now.rules c.args.self.now.direction
    c.args.self.now.client.now (option_copied c.args.self.now.user) c.args.self.now.topic.now
    c.args.rows.now)))
