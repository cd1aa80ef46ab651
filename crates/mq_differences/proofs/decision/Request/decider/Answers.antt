use Rattle.std.proofs.Common.{ap, sym, ◌∙◌}
use Rattle.std.specs.Option.{option_copied, option_or}
use Rattle.mq_differences.proofs.DeciderLemmas.{copied_or, decider_ranks}
use Rattle.mq_differences.proofs.decision.Request.decider.Goals as goal

pub returns : goal.returns
returns c =
    ap option_copied (c.or.ensures ∙ (λ i. option_or (c.or-own.ensures i) (c.or-pattern.ensures i)))
    ∙ (copied_or (option_or c.first_at.result c.first_at-2.result)
    (option_or c.first_at-3.result c.first_at-4.result)
    ∙ ((λ i. option_or (copied_or c.first_at.result c.first_at-2.result i)
    (copied_or c.first_at-3.result c.first_at-4.result i))
    ∙ ((λ i. option_or (option_or (c.first_at.ensures i) (c.first_at-2.ensures i))
    (option_or (c.first_at-3.ensures i) (c.first_at-4.ensures i)))
    ∙ sym (decider_ranks c.args.self.now.rules c.args.self.now.direction
    c.args.self.now.client.now (option_copied c.args.self.now.user) c.args.self.now.topic.now
    c.args.rows.now))))
