use Rattle.std.proofs.Common.{◌∙◌, ap, sym}
use Rattle.std.proofs.lemmas.Result.{IfOk-weaker}
use Rattle.mq_topic.specs.Levels.{levels}
use Rattle.mq_acl.specs.Filled.{filled}
use Rattle.mq_acl.specs.Views.{row_view}
use Rattle.mq_shapes.proofs.FilledLemmas.{pattern_levels, plain_levels}
use Rattle.mq_shapes.proofs.filled.row_text.Goals as goal

pub returns-then-is_pattern : goal.returns-then-is_pattern
returns-then-is_pattern c =
    let client = c.args.names.client.now in
    let user = c.args.names.user.now in
    IfOk-weaker c.filled_text.result _ _
    (λ text e. ap levels (e ∙ ap (filled client user) c.text.ensures.text)
    ∙ pattern_levels client user (row_view c.args.row.now)
    (sym c.is_pattern.ensures ∙ c.if-is_pattern.true)) c.filled_text.ensures

pub returns : goal.returns
returns c =
    IfOk-weaker c.from_str.result _ _
    (λ text e. ap levels (e ∙ c.text-2.ensures.text)
    ∙ plain_levels c.args.names.client.now c.args.names.user.now (row_view c.args.row.now)
    (sym c.is_pattern.ensures ∙ c.if-is_pattern.false)) c.from_str.ensures.ok
