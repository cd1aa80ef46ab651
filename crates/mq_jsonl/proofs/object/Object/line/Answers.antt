use Rattle.std.proofs.Common.{◌++◌, ◌∷◌, [], ap, ◌∙◌}
use Rattle.serde_json.specs.Data.{object}
use Rattle.serde_json.specs.Written.{compact_text}
use Rattle.serde_json.specs.View.{members_view}
use Rattle.mq_jsonl.proofs.EntryLemmas.{kept, no_float_inside, text_inside}
use Rattle.mq_jsonl.proofs.object.Object.line.Goals as goal

pub returns-in_err-line-clause-same : goal.returns-in_err-line-clause-same
returns-in_err-line-clause-same c = kept c.replace.result c.members_of.result c.members_of.ensures
    ∙ ap (λ m. members_view m.entries) c.replace.ensures.value

pub returns-in_err-push-clause-same : goal.returns-in_err-push-clause-same
returns-in_err-push-clause-same c = kept c.replace.result c.members_of.result c.members_of.ensures
    ∙ ap (λ m. members_view m.entries) c.replace.ensures.value

pub returns-clause-same : goal.returns-clause-same
returns-clause-same c = kept c.replace.result c.members_of.result c.members_of.ensures
    ∙ ap (λ m. members_view m.entries) c.replace.ensures.value

pub returns-clause-text : goal.returns-clause-text
returns-clause-text c =
    let none = no_float_inside c.replace.result
    (rw c.replace.ensures.value c.args.self.now.no_float) in
    let object_is = c.in_ok-line.ensures.text none ∙ text_inside c.replace.result
    ∙ ap (λ m. compact_text (object (members_view m.entries))) c.replace.ensures.value in
    c.in_ok-push.ensures.items ∙ ap (λ l. l ++ 10 ∷ []) object_is
