use Rattle.std.proofs.Common.{◌∙◌, ap, subst, string_bytes}
use Rattle.std.specs.Option.{option_copied}
use Rattle.mq_topic.specs.Texts.{filter_part}
use Rattle.mq_reach.specs.Reach.{IsReachFault}
use Rattle.mq_reach.proofs.question.is_unreached.Goals as goal

pub returns-clause-err : goal.returns-clause-err
returns-clause-err c =
    let user = option_copied c.args.user in
    let client = string_bytes c.args.subscription.now.client in
    let fault = c.in-Err.fault in
    c.fault_of.ensures c.args.list.now user
    (subst (λ f. IsReachFault c.args.list.now client user f fault)
    (c.in_ok-filter.ensures.ok ∙ ap filter_part c.as_str.ensures.value)
    (subst (λ l. IsReachFault c.args.list.now l user c.in_ok-filter.filter fault)
    c.as_str-client.ensures.value
    c.in-Err.ensures.fault))
