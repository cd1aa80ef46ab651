-- What changes between the texts of two lists through the text of a plan.
use Rattle.std.specs.Prelude.{◌≡◌, ◌⊎◌, ℕ, List, [], All, Ok, Err}
use Rattle.mq_acl.specs.Rows.{out_of_memory as acl_memory, rows_by}
use Rattle.mq_acl.specs.Views.{row_views}
use Rattle.mq_acl.specs.declared.row.Row.{Row}
use Rattle.mq_acl.specs.declared.fault.AclFault.{AclFault}
use Rattle.mq_acl.specs.declared.rules.Rules.TheVariants.{Own}
use Rattle.mq_plan.specs.Rules.{out_of_memory as plan_memory, rules_of}
use Rattle.mq_plan.specs.declared.rule.PlanRule.{PlanRule}
use Rattle.mq_through.specs.Faults.{IsThroughFault}
use Rattle.mq_through.specs.declared.fault.ThroughFault.{ThroughFault}
use Rattle.mq_through.specs.Through.{IsReal, ShowsAll, ShowsOthers}
use Rattle.mq_ask_plan.specs.declared.fault.PlanAnswerFault.{PlanAnswerFault}
use Rattle.mq_ask_plan.specs.declared.fault.PlanAnswerFault.TheVariants as faults
use Rattle.mq_ask_plan.specs.declared.find.RenamedChanges.{RenamedChanges}

-- rows and rules are those of the texts; each change is among these, and each of these is one, with
-- other texts in the place of its placeholders too
pub record AreRenamed (old new plan : List ℕ) (c : RenamedChanges) : Type 0 where
  pub old_rows : rows_by Own old ≡ Ok (row_views c.old.items)
  pub new_rows : rows_by Own new ≡ Ok (row_views c.new.items)
  pub rules : rules_of plan ≡ Ok c.plan
  pub every : ShowsAll c.plan c.old.items c.new.items c.renamed.items
  pub real : All (IsReal c.plan c.old.items c.new.items) c.renamed.items
  pub others : All (ShowsOthers c.plan c.old.items c.new.items) c.renamed.items

-- lists and a plan have these texts, and aren't compared in so many steps for this reason
pub record IsThrough (old new plan : List ℕ) (steps : ℕ) (fault : ThroughFault) : Type 0 where
  pub old_rows : List Row
  pub new_rows : List Row
  pub rules : List PlanRule
  pub old_read : rows_by Own old ≡ Ok (row_views old_rows)
  pub new_read : rows_by Own new ≡ Ok (row_views new_rows)
  pub plan_read : rules_of plan ≡ Ok rules
  pub is : IsThroughFault rules old_rows new_rows steps fault

-- a text has this fault, or memory ran out, or they aren't compared in so many steps
abbrev pub IsAnswerFault : (old new plan : List ℕ) → (steps : ℕ) → PlanAnswerFault → Type 0
IsAnswerFault old new plan steps (faults.Old fault) =
    (fault ≡ acl_memory) ⊎ (rows_by Own old ≡ Err fault)
IsAnswerFault old new plan steps (faults.New fault) =
    (fault ≡ acl_memory) ⊎ (rows_by Own new ≡ Err fault)
IsAnswerFault old new plan steps (faults.Plan fault) =
    (fault ≡ plan_memory) ⊎ (rules_of plan ≡ Err fault)
IsAnswerFault old new plan steps (faults.Through fault) = IsThrough old new plan steps fault
