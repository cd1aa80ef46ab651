use Rattle.std.proofs.Common.{lit<, rules, tests, ◌∙◌, sym, ap}
use Rattle.std.specs.Option.{option_map}
use Rattle.std.proofs.lemmas.Iterator.Search.{position_from_yields_List}
use Rattle.std.proofs.lemmas.Iterator.Splits.{YieldsList-from_str_split}
use Rattle.mq_topic.specs.Levels.{levels}
use Rattle.mq_plan.specs.Pairs.{is_twice}
use Rattle.mq_plan.specs.declared.fault.PlanKind.TheVariants.{Twice}
use Rattle.mq_plan.proofs.pair.twice_fault.Goals as goal

pub returns-in_err-level : goal.returns-in_err-level
returns-in_err-level c =
    let is = position_from_yields_List (is_twice (levels c.args.left.now)) _ _ c.position.result
    c.position.ensures.ran
    (YieldsList-from_str_split 47 c.args.left.now (lit< tt) c.split.ensures.text
    c.split.ensures.has_more c.split.ensures.pattern) (λ x b q k. search (rules, tests)) in
    c.from_residual.ensures ∙ ap (option_map (λ i. Twice i)) (sym c.in_err-level.was ∙ is)

pub returns : goal.returns
returns c =
    let is = position_from_yields_List (is_twice (levels c.args.left.now)) _ _ c.position.result
    c.position.ensures.ran
    (YieldsList-from_str_split 47 c.args.left.now (lit< tt) c.split.ensures.text
    c.split.ensures.has_more c.split.ensures.pattern) (λ x b q k. search (rules, tests)) in
    ap (option_map (λ i. Twice i)) (sym c.in_ok-level.was ∙ is)
