use Rattle.std.proofs.Common.{◌≡◌, true, rules, sym, subst, ◌∙◌}
use Rattle.mq_topic.specs.Texts.{is_filter}
use Rattle.mq_topic.proofs.TextLemmas.{filter_part_is_filter}
use Rattle.mq_topic.proofs.subscription.SubFilter.new.Goals as goal

pub new-requires : goal.new-requires
new-requires c = subst (λ part. is_filter part ≡ true) (sym c.parts.ensures.filter)
    (filter_part_is_filter c.args.text.now c.requires)

pub returns : goal.returns
returns c = (search rules, c.in_ok-filter.ensures ∙ c.parts.ensures.filter)
