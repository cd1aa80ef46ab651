use Rattle.std.proofs.Common.{◌∙◌, ap, string_bytes, sym}
use Rattle.std.proofs.lemmas.Result.{IfOk-weaker}
use Rattle.mq_ask_compare.proofs.ChangedLemmas.{changes_same}
use Rattle.mq_ask_compare.proofs.WordedLemmas.{differences_worded, groups_same, same_worded}
use Rattle.mq_ask_compare.specs.Worded.{scope_view}
use Rattle.mq_print.specs.Lists.{lent_texts, list_view}
use Rattle.mq_ask_compare.proofs.changes.changes_text.Goals as goal

pub returns-then-json-clause-objects : goal.returns-then-json-clause-objects
returns-then-json-clause-objects c =
    let olds = ap lent_texts c.deref.ensures.value ∙ c.in_ok-old_lines.ensures in
    let news = ap lent_texts c.deref-2.ensures.value ∙ c.in_ok-new_lines.ensures in
    IfOk-weaker c.json_lines.result _ _
    (λ text shown. λ json none. shown none ∙ changes_same (list_view c.args.old)
    (list_view c.args.new) _ _ _ c.args.differences.items olds news c.deref-then-json.ensures.value) c.json_lines.ensures

pub returns-then-is_empty-clause-words : goal.returns-then-is_empty-clause-words
returns-then-is_empty-clause-words c =
    IfOk-weaker c.none_text.result _ _
    (λ text says. λ words. same_worded (scope_view c.args.scope) (list_view c.args.old)
    (list_view c.args.new) c.args.differences.items c.args.differences.len (string_bytes text)
    c.args.differences.ok.0 (sym c.is_empty.ensures ∙ c.if-is_empty.true) says)
    c.none_text.ensures

pub returns-clause-words : goal.returns-clause-words
returns-clause-words c =
    let olds = ap lent_texts c.deref.ensures.value ∙ c.in_ok-old_lines.ensures in
    let news = ap lent_texts c.deref-2.ensures.value ∙ c.in_ok-new_lines.ensures in
    IfOk-weaker c.words.result _ _
    (λ text shows. λ words. differences_worded (scope_view c.args.scope) (list_view c.args.old)
    (list_view c.args.new) c.args.differences.items c.args.differences.len (string_bytes text)
    c.args.differences.ok.0 (sym c.is_empty.ensures ∙ c.if-is_empty.false) (record {
      groups = c.in_ok-groups.groups.items;
      gathered = c.in_ok-groups.ensures;
      shows = groups_same (scope_view c.args.scope) (list_view c.args.old) (list_view c.args.new)
          _ _ _ _ (string_bytes text) olds news c.deref-3.ensures.value shows;
    })) c.words.ensures
