-- What is shown where lists aren't compared through a plan.
use Rattle.std.specs.Prelude.{◌≡◌, ◌<◌, ◌+◌, ℕ, List, ⊤, Some, length}
use Rattle.mq_acl.specs.declared.row.Row.{Row}
use Rattle.mq_witness.specs.Limits.{long_line}
use Rattle.mq_differences.specs.Steps.{enough_steps}
use Rattle.mq_plan.specs.declared.rule.PlanRule.{PlanRule}
use Rattle.mq_regions.specs.declared.region.Region.{Region}
use Rattle.mq_through.specs.Checks.{IsLongName, marked_line, unfit_line}
use Rattle.mq_through.specs.Made.{IsClient, IsList, asks_new, asks_old}
use Rattle.mq_through.specs.Named.{IsNoClient}
use Rattle.mq_through.specs.Parts.{IsPart}
use Rattle.mq_through.specs.declared.fault.ThroughFault.{ThroughFault}
use Rattle.mq_through.specs.declared.fault.ThroughFault.TheVariants as faults

-- two lists are made for a region of the plan and a client id, and fewer steps are given than are
-- enough for their rows
pub record AreFewSteps (plan : List PlanRule) (old new : List Row) (steps : ℕ) : Type 0 where
  pub region : Region
  pub client : List ℕ
  pub old_rows : List Row
  pub new_rows : List Row
  pub part : IsPart plan region
  pub id : IsClient client
  pub old_list : IsList region asks_old client old old_rows
  pub new_list : IsList region (asks_new region) client new new_rows
  pub few : steps < enough_steps (length old_rows + length new_rows)

-- what is shown is so
abbrev pub IsThroughFault : List PlanRule → (old new : List Row) → (steps : ℕ) → ThroughFault
    → Type 0
IsThroughFault plan old new steps faults.Memory = ⊤
IsThroughFault plan old new steps (faults.OldLine line) = long_line old ≡ Some line
IsThroughFault plan old new steps (faults.NewLine line) = long_line new ≡ Some line
IsThroughFault plan old new steps (faults.OldMark line) = marked_line old ≡ Some line
IsThroughFault plan old new steps (faults.NewMark line) = marked_line new ≡ Some line
IsThroughFault plan old new steps (faults.Rule line) = unfit_line plan ≡ Some line
IsThroughFault plan old new steps (faults.LongName line) = IsLongName plan line
IsThroughFault plan old new steps faults.NoClient = IsNoClient plan old new
IsThroughFault plan old new steps faults.GaveUp = AreFewSteps plan old new steps
