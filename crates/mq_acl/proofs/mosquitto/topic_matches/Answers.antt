use Rattle.std.proofs.Common.{◌∙◌, subst₂}
use Rattle.mq_acl.specs.Starts.{StartsApart}
use Rattle.mq_acl.proofs.StartLemmas.{not_matched}
use Rattle.mq_acl.proofs.mosquitto.topic_matches.Goals as goal

pub returns-then-starts_apart : goal.returns-then-starts_apart
returns-then-starts_apart c =
    let filter = c.as_bytes.ensures.value ∙ c.text.ensures.text in
    let name = c.as_bytes-2.ensures.value ∙ c.text-2.ensures.text in
    not_matched c.args.name.now c.args.filter.now c.text-2.ensures.name
    (subst₂ StartsApart filter name (c.starts_apart.ensures c.if-starts_apart.true))
