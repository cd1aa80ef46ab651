-- What changes between the texts of two lists through that of a plan of topic names.
use Rattle.std.specs.List.{list_any}
use Rattle.std.specs.Prelude.{Bool, List, Ok, Option, false, true, ℕ, ◌≡◌}
use Rattle.mq_acl.specs.Rows.{rows_by}
use Rattle.mq_acl.specs.Views.{row_views}
use Rattle.mq_acl.specs.declared.row.Row.{Row}
use Rattle.mq_acl.specs.declared.rules.Rules.{Rules}
use Rattle.mq_acl.specs.declared.rules.Rules.TheVariants.{Own}
use Rattle.mq_ask.specs.Lists.{IsTaken}
use Rattle.mq_ask.specs.declared.outcome.Outcome.{Outcome}
use Rattle.mq_ask.specs.declared.outcome.Outcome.TheVariants.{Clear, Remark}
use Rattle.mq_ask_cases.specs.Ways.{is_way}
use Rattle.mq_differences.specs.declared.way.Way.{Way}
use Rattle.mq_plan.specs.Rules.{rules_of}
use Rattle.mq_plan.specs.declared.rule.PlanRule.{PlanRule}
use Rattle.mq_through.specs.Through.{IsQuestion, Question, is_changed}
use Rattle.mq_through.specs.declared.renamed.Renamed.{Renamed}

-- one of them is of a way that is asked about
abbrev pub has_way : (only : Option Way) → List Renamed → Bool
has_way only all = list_any (λ one. is_way only one.difference.way) all

-- nothing changes in a way that is asked about; or something does
abbrev pub ShowsThrough : (only : Option Way) → List PlanRule → (old new : List Row) → Outcome
    → Type 0
ShowsThrough only plan old new Clear = (way : Way) (q : Question) → is_way only way ≡ true
    → IsQuestion plan q → is_changed way old new q ≡ false
ShowsThrough only plan old new Remark = (way : Way) × (q : Question) × (is_way only way ≡ true)
    × IsQuestion plan q × (is_changed way old new q ≡ true)

-- so it is of the lists, which mosquitto takes, and the plan with these texts, by our own rules
pub record IsComparedThrough (rules : Rules) (only : Option Way) (old new plan : List ℕ)
    (outcome : Outcome) : Type 0 where
  pub own : rules ≡ Own
  pub old_taken : IsTaken old
  pub new_taken : IsTaken new
  pub old_rows : List Row
  pub new_rows : List Row
  pub plan_rules : List PlanRule
  pub old_read : rows_by Own old ≡ Ok (row_views old_rows)
  pub new_read : rows_by Own new ≡ Ok (row_views new_rows)
  pub plan_read : rules_of plan ≡ Ok plan_rules
  pub shown : ShowsThrough only plan_rules old_rows new_rows outcome
