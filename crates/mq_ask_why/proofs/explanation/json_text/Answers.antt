use Rattle.std.proofs.Common.{◌≡◌, ◌∙◌, ap, rules, string_bytes}
use Rattle.mq_print.specs.Lists.{lent_texts, list_view}
use Rattle.mq_ask_why.proofs.ExplainedLemmas.{list_of}
use Rattle.mq_ask_why.specs.Explained.{explanation_text}
use Rattle.mq_ask_why.proofs.explanation.json_text.Goals as goal

pub returns : goal.returns
returns c =
    let list = list_of (list_view c.args.list) _
    (ap lent_texts c.as_slice.ensures.value ∙ c.in_ok-lines.ensures) in
    let shown : string_bytes c.add_json-2.new.text ≡ explanation_text
    (record { file = c.args.list.file.now; lines = lent_texts c.as_slice.result.now })
    c.args.reading c.args.writing = search rules in
    shown ∙ ap (λ l. explanation_text l c.args.reading c.args.writing) list
