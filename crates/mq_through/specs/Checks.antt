-- What lists and plans have to keep to.
use Rattle.std.specs.Prelude.{◌≡◌, ℕ, Bool, true, false, List, ◌||◌, find}
use Rattle.std.specs.Prelude.{Option, Some, None}
use Rattle.std.specs.Option.{option_map}
use Rattle.mq_topic.specs.Levels.{levels}
use Rattle.mq_topic.specs.Texts.{is_name}
use Rattle.mq_acl.specs.Rows.{Who, Anonymous, Named, Everyone}
use Rattle.mq_acl.specs.Views.{row_view}
use Rattle.mq_acl.specs.declared.row.Row.{Row}
use Rattle.mq_witness.specs.Limits.{long_line}
use Rattle.mq_rename.specs.Lists.{has_long}
use Rattle.mq_rename.specs.Renames.{Renaming}
use Rattle.mq_rename.specs.Renames as renames
use Rattle.mq_plan.specs.Names.{left_of, rename_of, rule_for}
use Rattle.mq_plan.specs.declared.rule.PlanRule.{PlanRule}
use Rattle.mq_regions.specs.Regions.{has_mark, is_mark}

-- the row is of a `topic` line, with a level `%c` or `%u`, or a user name
abbrev pub has_topic_mark : Who → List ℕ → Bool
has_topic_mark Anonymous filter = has_mark (levels filter)
has_topic_mark (Named name) filter = has_mark (levels filter) || is_mark name
has_topic_mark Everyone filter = false

-- the line of the first such row
abbrev pub marked_line : List Row → Option ℕ
marked_line rows = option_map (λ row. row.line)
    (find (λ row. has_topic_mark (row_view row).who (row_view row).filter) rows)

-- a level is long, or it is a mark
abbrev pub is_unfit_side : List ℕ → Bool
is_unfit_side filter = has_long (levels filter) || has_mark (levels filter)

abbrev pub is_unfit_right : Option Renaming → Bool
is_unfit_right None = false
is_unfit_right (Some rename) = is_unfit_side rename.right

abbrev pub is_unfit : PlanRule → Bool
is_unfit rule = is_unfit_side (left_of rule) || is_unfit_right (rename_of rule)

-- the line of the first rule with such a side
abbrev pub unfit_line : List PlanRule → Option ℕ
unfit_line plan = option_map (λ rule. rule.line) (find is_unfit plan)

-- the lists and the plan keep to it
pub record AreFit (plan : List PlanRule) (old new : List Row) : Type 0 where
  pub old_short : long_line old ≡ None
  pub new_short : long_line new ≡ None
  pub old_plain : marked_line old ≡ None
  pub new_plain : marked_line new ≡ None
  pub rules : unfit_line plan ≡ None

-- the rule on the line decides about the topic: it renames it, and to no name
pub record HasNoName (plan : List PlanRule) (line : ℕ) (topic : List ℕ) : Type 0 where
  pub rule : PlanRule
  pub rename : Renaming
  pub first : rule_for plan topic ≡ Some rule
  pub at : rule.line ≡ line
  pub renamed : rename_of rule ≡ Some rename
  pub none : renames.new_name rename topic ≡ None

abbrev pub IsLongName : List PlanRule → ℕ → Type 0
IsLongName plan line = (topic : List ℕ) × ((is_name topic ≡ true) × HasNoName plan line topic)
