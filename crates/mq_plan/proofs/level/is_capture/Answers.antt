use Rattle.std.proofs.Common.{◌≡◌, ◌==◌, ◌&&◌, ◌∙◌, sym, ap, rules, tests}
use Rattle.std.specs.List.{list_all}
use Rattle.std.proofs.lemmas.Iterator.{YieldsList-from_slice}
use Rattle.std.proofs.lemmas.Iterator.Search.{all_from_yields_List}
use Rattle.mq_plan.specs.Sides.{is_capture, is_name_byte}
use Rattle.mq_plan.proofs.level.is_capture.Goals as goal

pub returns : goal.returns
returns c =
    let name = c.in-Some.name.now in
    let all : c.all.result ≡ list_all is_name_byte name =
    all_from_yields_List is_name_byte _ _ _ c.all.ensures.ran (YieldsList-from_slice name cc)
    (λ x b q k. search (rules, tests)) in
    all ∙ (λ i. (sym c.if-first-ne43.false i == 43) && list_all is_name_byte name)
    ∙ ap is_capture (sym (sym c.as_bytes.ensures.value ∙ c.in-Some.ensures.cases.0))
