use Rattle.std.proofs.Common.{◌∙◌, ap, refl, sym, Result, Ok, Err, IfErr}
use Rattle.std.proofs.lemmas.Result.{IfOk-weaker, on_ok_weaker}
use Rattle.mq_ask_plan.specs.Plan.{has_way}
use Rattle.mq_ask_plan.proofs.PlanLemmas.{compared_through}
use Rattle.mq_ask_plan.proofs.through.compare_texts.Goals as goal

for_each : {T E : Type 0} (r : Result T E) (Q : E → Type 0) → ((e : E) → Q e) → IfErr r Q
for_each (Ok x) Q h = tt
for_each (Err e) Q h = h e

pub returns-clause-ok : goal.returns-clause-ok
returns-clause-ok g c =
    let asked = has_way c.args.only in
    let is = compared_through c.args.options.rules c.args.only c.args.texts.old.text.now
    c.args.texts.new.text.now c.args.texts.plan.text.now c.in_ok-changes.changes
    c.outcome_of-outcome.result c.requires c.in_ok-check_taken.ensures.ok
    c.in_ok-check_taken-2.ensures.ok c.in_ok-changes.ensures
    (λ e. ap asked (sym c.deref.ensures.value) ∙ c.outcome_of-outcome.ensures.clear e)
    (λ e. ap asked (sym c.deref.ensures.value) ∙ c.outcome_of-outcome.ensures.remark e) in
    IfOk-weaker c.print_outcome.result _ _ (λ shown e. rw e is) c.print_outcome.ensures.ok

pub returns-in_err-changes-clause-unread : goal.returns-in_err-changes-clause-unread
returns-in_err-changes-clause-unread g c =
    for_each c.from_residual-in_err-changes.result _ (λ failure e. refl)

pub returns-clause-json : goal.returns-clause-json
returns-clause-json g c =
    on_ok_weaker c.print_outcome.result
    (λ written. λ json. record {
      changes = c.in_ok-changes.changes;
      are = c.in_ok-changes.ensures;
      written = rw (← c.into_renamed.ensures) (rw (c.in_ok-text.ensures json) at written);
    }) c.print_outcome.ensures.printed
