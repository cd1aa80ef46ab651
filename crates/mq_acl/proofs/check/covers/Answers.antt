use Rattle.std.proofs.Common.{◌∙◌, subst₂}
use Rattle.std.specs.Option.{option_copied}
use Rattle.mq_acl.specs.Starts.{StartsApart}
use Rattle.mq_acl.specs.Views.{row_view}
use Rattle.mq_acl.proofs.StartLemmas.{not_covered}
use Rattle.mq_acl.proofs.check.covers.Goals as goal

pub returns-then-starts_apart : goal.returns-then-starts_apart
returns-then-starts_apart c =
    let filter = c.as_bytes.ensures.value ∙ c.text.ensures.text in
    let name = c.as_bytes-2.ensures.value ∙ c.text-2.ensures.text in
    not_covered c.args.client.now (option_copied c.args.user) c.args.name.now
    (row_view c.args.row.now) c.text-2.ensures.name
    (subst₂ StartsApart filter name (c.starts_apart.ensures c.if-starts_apart.true))
