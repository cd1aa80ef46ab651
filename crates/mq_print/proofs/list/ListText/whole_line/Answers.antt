use Rattle.std.proofs.Common.{◌≡◌, ◌-◌, ◌∙◌, [], ap, get_or, refl, rules, lit<, tests}
use Rattle.std.proofs.lemmas.Iterator.Splits.{YieldsList-from_str_split}
use Rattle.std.proofs.lemmas.Iterator.Consumers.{nth_from_yields_List}
use Rattle.mq_print.specs.Lists.{lines}
use Rattle.mq_print.proofs.LineLemmas.{line_found}
use Rattle.mq_print.proofs.list.ListText.whole_line.Goals as goal

pub returns : goal.returns
returns c =
    let found = nth_from_yields_List _ _ _ c.nth.ensures.ran
    (YieldsList-from_str_split 10 c.args.self.text.now (lit< tt) c.split.ensures.text
    c.split.ensures.has_more c.split.ensures.pattern) in
    let place : c.unwrap_or-before.result ≡ c.args.number - 1 = search (rules, tests) in
    line_found c.nth.result _ c.unwrap_or.result (lines c.args.self.text.now) _
    c.unwrap_or.ensures refl found
    ∙ ap (λ i. get_or (lines c.args.self.text.now) i []) place
