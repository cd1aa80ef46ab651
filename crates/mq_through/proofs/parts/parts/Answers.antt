use Rattle.std.proofs.Common.{◌∙◌, ◌++◌, ◌∷◌, ◌+◌, List, ap, drop, subst, suc, sym}
use Rattle.std.proofs.Common.{take}
use Rattle.mq_plan.specs.Names.{name_by, takes}
use Rattle.mq_plan.specs.declared.rule.PlanRule.{PlanRule}
use Rattle.mq_differences.proofs.FirstLemmas.{parts_at}
use Rattle.mq_through.specs.Checks.{unfit_line}
use Rattle.mq_through.specs.Parts.{AreParts}
use Rattle.mq_through.proofs.LoopLemmas.{ArePartsTo, parts_all, parts_more}
use Rattle.mq_through.proofs.parts.parts.Goals as goal

pub loop-place-preserved : goal.loop-place-preserved
loop-place-preserved c =
    let rules = c.rules-rules.result.now in
    let place = c.loop-place.place in
    let rule = c.index-rules-place.result in
    let old = c.loop-place.parts.items in
    let new = c.add_rule.new.parts.items in
    subst (λ (plan : List PlanRule). ArePartsTo plan (place + 1) new) c.rules-rules.ensures
    (parts_more rules place rule old new c.loop-place-test.true
    (c.in_ok-add_rule.ensures.widens rules (drop (suc place) rules)
    (ap unfit_line c.rules-rules.ensures ∙ c.requires.fit)
    (parts_at rules place rule c.loop-place-test.true
    ∙ ap (λ r. take place rules ++ (r ∷ drop (suc place) rules)) (sym c.index-rules-place.is)))
    (λ topic name h t e. c.in_ok-add_rule.ensures.has topic name h
    (ap (takes topic) c.index-rules-place.is ∙ t)
    (ap (λ r. name_by r topic) c.index-rules-place.is ∙ e))
    (subst (λ (plan : List PlanRule). ArePartsTo plan place old) (sym c.rules-rules.ensures)
    c.loop-place.invariant))

pub returns : goal.returns
returns c =
    let rules = c.rules-rules.result.now in
    let place = c.loop-place.place in
    let old = c.loop-place.parts.items in
    let new = c.add_rest.new.parts.items in
    subst (λ (plan : List PlanRule). AreParts plan new) c.rules-rules.ensures
    (parts_all rules place old new c.loop-place-test.false
    (c.in_ok-add_rest.ensures.widens (ap unfit_line c.rules-rules.ensures ∙ c.requires.fit))
    c.in_ok-add_rest.ensures.has
    (subst (λ (plan : List PlanRule). ArePartsTo plan place old) (sym c.rules-rules.ensures)
    c.loop-place.invariant))
