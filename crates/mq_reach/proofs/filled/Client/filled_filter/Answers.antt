use Rattle.std.proofs.Common.{◌≡◌, ◌∙◌, ◌&&◌, ◌⊎◌, false, [], subst}
use Rattle.std.specs.Prelude.{IfErr, IfOk}
use Rattle.std.specs.Option.{option_copied, unwrap_or}
use Rattle.mq_topic.specs.Texts.{is_filter}
use Rattle.mq_acl.specs.Filled.{filled}
use Rattle.mq_witness.specs.Limits.{has_short_levels}
use Rattle.mq_reach.specs.declared.fault.ReachFault.TheVariants.{Memory, Pattern}
use Rattle.mq_reach.proofs.filled.Client.filled_filter.Goals as goal

pub returns-clause-filter : goal.returns-clause-filter
returns-clause-filter c =
    let user = unwrap_or (option_copied c.args.self.user) [] in
    let is : c.as_str.result.now ≡ filled c.args.self.id.now user c.args.filter.now =
    c.as_str.ensures.value ∙ c.in_ok-text.ensures.ok ∙ c.in_ok-bytes.ensures
    ∙ (λ i. filled (c.names.ensures.client i) (c.names.ensures.user i) c.args.filter.now) in
    subst (λ t. IfOk c.short_filter.result (λ made. made ≡ t)) is c.short_filter.ensures.filter

pub returns-clause-fault : goal.returns-clause-fault
returns-clause-fault c =
    let user = unwrap_or (option_copied c.args.self.user) [] in
    let is : c.as_str.result.now ≡ filled c.args.self.id.now user c.args.filter.now =
    c.as_str.ensures.value ∙ c.in_ok-text.ensures.ok ∙ c.in_ok-bytes.ensures
    ∙ (λ i. filled (c.names.ensures.client i) (c.names.ensures.user i) c.args.filter.now) in
    subst (λ t. IfErr c.short_filter.result (λ fault. (fault ≡ Memory) ⊎ ((fault ≡ Pattern)
    × ((is_filter t && has_short_levels t) ≡ false)))) is c.short_filter.ensures.fault
