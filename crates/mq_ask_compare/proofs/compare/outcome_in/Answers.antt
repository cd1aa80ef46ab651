use Rattle.std.proofs.Common.{ap, sym, ◌∙◌}
use Rattle.std.specs.List.{list_any}
use Rattle.mq_differences.specs.declared.difference.Difference.{Difference}
use Rattle.mq_ask_cases.specs.Ways.{is_way}
use Rattle.mq_ask_compare.proofs.CompareLemmas.{shown}
use Rattle.mq_ask_compare.proofs.compare.outcome_in.Goals as goal

pub returns : goal.returns
returns c old new are =
    let asked = λ (d : Difference). is_way c.args.only d.way in
    shown c.args.rules c.args.changes.now old new are c.args.only c.outcome_of.result
    (λ e. ap (list_any asked) (sym c.deref.ensures.value) ∙ c.outcome_of.ensures.clear e)
    (λ e. ap (list_any asked) (sym c.deref.ensures.value) ∙ c.outcome_of.ensures.remark e)
