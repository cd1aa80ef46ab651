use Rattle.std.proofs.Common.{◌≡◌, None, ap, ◌∙◌, Vec, Global}
use Rattle.std.proofs.Common.{string_bytes, rules}
use Rattle.std.proofs.lemmas.Result.{IfOk-weaker}
use Rattle.std.specs.List.{filter}
use Rattle.std.specs.Option.{option_map}
use Rattle.mq_acl.specs.declared.row.Row.{Row}
use Rattle.mq_ask_cases.specs.Ways.{is_way}
use Rattle.mq_ask_compare.proofs.WordedLemmas.{scope_same}
use Rattle.mq_ask_compare.specs.Worded.{script_file}
use Rattle.mq_differences.specs.declared.difference.Difference.{Difference}
use Rattle.mq_ask_compare.proofs.compare.answer_text.Goals as goal

pub returns-clause-objects : goal.returns-clause-objects
returns-clause-objects c =
    let some : c.in_ok-differences.differences.items
    ≡ filter (λ d. is_way c.args.only d.way) c.args.changes.differences.items =
    c.in_ok-differences.ensures ∙ ap (λ (parts : Vec Row Global × Vec Row Global
    × Vec Difference Global). filter (λ d. is_way c.args.only d.way) parts.2.items)
    c.into_parts-old.ensures in
    IfOk-weaker c.changes_text.result _ _ (λ text is. λ json none.
    let traffic : c.map-traffic.result ≡ None = search (rules) in
    rw (some) at (is json traffic)) c.changes_text.ensures.objects

pub returns-clause-words : goal.returns-clause-words
returns-clause-words c =
    let some : c.in_ok-differences.differences.items
    ≡ filter (λ d. is_way c.args.only d.way) c.args.changes.differences.items =
    c.in_ok-differences.ensures ∙ ap (λ (parts : Vec Row Global × Vec Row Global
    × Vec Difference Global). filter (λ d. is_way c.args.only d.way) parts.2.items)
    c.into_parts-old.ensures in
    let script : script_file c.map-traffic.result ≡ option_map (λ s. s.file.now) c.args.script =
    search (rules) in
    IfOk-weaker c.changes_text.result _ _ (λ text is. λ words.
    scope_same c.args.options.rules c.args.only _ _ c.args.options.coloured _ _ _ _
    (string_bytes text) script some (is words)) c.changes_text.ensures.words
