use Rattle.std.proofs.Common.{◌++◌, ◌∙◌, ℕ, List, ap}
use Rattle.std.proofs.lemmas.Result.{IfOk-weaker}
use Rattle.mq_ask.specs.Objects.{refused_texts}
use Rattle.mq_ask_who.proofs.WhoShownLemmas.{permissions_same}
use Rattle.mq_print.specs.Lists.{lent_texts, list_view}
use Rattle.mq_ask_who.proofs.permissions.permissions_text.Goals as goal

pub returns-then-json : goal.returns-then-json
returns-then-json c =
    let lines = ap lent_texts c.deref.ensures.value ∙ c.in_ok-lines.ensures in
    let broker = c.args.asked.refused.now in
    let behind = refused_texts broker in
    IfOk-weaker c.json_lines.result _ _
    (λ text shown. λ json none. shown none ∙ ap (λ (t : List ℕ). t ++ behind)
    (permissions_same (list_view c.args.list) _ broker c.args.refused.items _ _ lines
    (c.deref-then-json.ensures.value ∙ c.in_ok-granted.ensures)))
    (c.json_lines.ensures c.args.refused.items c.in_ok-refusals.ensures)
