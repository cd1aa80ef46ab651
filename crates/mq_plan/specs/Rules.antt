-- The rules of a plan's text, or its first faulty line.
use Rattle.std.specs.Prelude.{ℕ, List, [], ◌∷◌, Option, Some, None, Result, Ok, Err}
use Rattle.std.specs.List.{enumerate_from, filter_map}
use Rattle.std.specs.Option.{option_map}
use Rattle.mq_acl.specs.Lines.{lines}
use Rattle.mq_plan.specs.Lines.{Entry, Skipped, Renamed, Kept, Gone, Unread, entry_of}
use Rattle.mq_plan.specs.Pairs.{left_fault, rename_fault, renaming}
use Rattle.mq_plan.specs.Sides.{plain_text}
use Rattle.mq_plan.specs.declared.fault.PlanFault.{PlanFault}
use Rattle.mq_plan.specs.declared.fault.PlanKind.{PlanKind}
use Rattle.mq_plan.specs.declared.fault.PlanKind.TheVariants as kinds
use Rattle.mq_plan.specs.declared.rule.Act.{Act}
use Rattle.mq_plan.specs.declared.rule.Act.TheVariants as acts
use Rattle.mq_plan.specs.declared.rule.PlanRule.{PlanRule}

-- what is wrong with a line that says this
abbrev pub entry_fault : Entry → Option PlanKind
entry_fault Skipped = None
entry_fault (Renamed left right) = rename_fault left right
entry_fault (Kept left) = left_fault left
entry_fault (Gone left) = left_fault left
entry_fault Unread = Some kinds.Rule

-- what becomes of which topics by it, where nothing is wrong
abbrev pub entry_act : Entry → Option Act
entry_act (Renamed left right) = Some (acts.Renamed (renaming left right))
entry_act (Kept left) = Some (acts.Kept (plain_text left))
entry_act (Gone left) = Some (acts.Gone (plain_text left))
entry_act entry = None

-- the fault of the line with this number
abbrev pub fault_at : ℕ × List ℕ → Option PlanFault
fault_at numbered =
    option_map (λ kind. record { line = numbered.0; kind = kind })
    (entry_fault (entry_of numbered.1))

-- its rule, if it says one
abbrev pub rule_at : ℕ × List ℕ → Option PlanRule
rule_at numbered =
    option_map (λ act. record { line = numbered.0; act = act }) (entry_act (entry_of numbered.1))

-- lines are counted from 1
abbrev pub faults_in : List (List ℕ) → List PlanFault
faults_in ls = filter_map fault_at (enumerate_from 1 ls)

abbrev pub rules_in : List (List ℕ) → List PlanRule
rules_in ls = filter_map rule_at (enumerate_from 1 ls)

abbrev pub unless_faulty : List PlanFault → List PlanRule → Result (List PlanRule) PlanFault
unless_faulty [] rules = Ok rules
unless_faulty (first ∷ later) rules = Err first

-- the rules in the order of their lines, or the first fault
abbrev pub rules_of : List ℕ → Result (List PlanRule) PlanFault
rules_of text = unless_faulty (faults_in (lines text)) (rules_in (lines text))

-- there was no memory; no line of a text has this fault
abbrev pub out_of_memory : PlanFault
out_of_memory = record { line = 0; kind = kinds.Memory }
