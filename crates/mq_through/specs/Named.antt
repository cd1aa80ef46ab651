-- What lists and plans name, and whether rows ask about the client id.
use Rattle.std.specs.Prelude.{◌≡◌, ◌<◌, ℕ, Bool, true, false, List, ◌++◌, ◌&&◌, ◌||◌, codes}
use Rattle.std.specs.Prelude.{replicate}
use Rattle.std.specs.Prelude.{Option, Some, None}
use Rattle.std.specs.List.{list_any}
use Rattle.std.specs.Str.{bytes_eq}
use Rattle.mq_topic.specs.Levels.{levels}
use Rattle.mq_acl.specs.Rows.{AclRow}
use Rattle.mq_acl.specs.RowsByOwner.{is_everyones}
use Rattle.mq_acl.specs.Views.{row_views}
use Rattle.mq_acl.specs.declared.row.Row.{Row}
use Rattle.mq_plan.specs.Names.{left_of, rename_of}
use Rattle.mq_plan.specs.declared.rule.PlanRule.{PlanRule}
use Rattle.mq_rename.specs.Renames.{Renaming}
use Rattle.mq_witness.specs.Literals.{is_literal_in}
use Rattle.mq_witness.specs.Rows.{rows_name}

abbrev pub right_names : List ℕ → Option Renaming → Bool
right_names text None = false
right_names text (Some rename) = is_literal_in text (levels rename.right)

-- a side of the rule has the text as a level, and it is no wildcard
abbrev pub rule_names : List ℕ → PlanRule → Bool
rule_names text rule =
    is_literal_in text (levels (left_of rule)) || right_names text (rename_of rule)

abbrev pub plan_names : List ℕ → List PlanRule → Bool
plan_names text plan = list_any (rule_names text) plan

-- a list or the plan names the text
abbrev pub is_named_in : List PlanRule → (old new : List Row) → List ℕ → Bool
is_named_in plan old new text = rows_name text (row_views old) || rows_name text (row_views new)
    || plan_names text plan

-- a `pattern` row has the client id as a level
abbrev pub asks_client : AclRow → Bool
asks_client row = is_everyones row.who && list_any (bytes_eq (codes "%c")) (levels row.filter)

abbrev pub asks_in : (old new : List Row) → Bool
asks_in old new = list_any asks_client (row_views old) || list_any asks_client (row_views new)

-- with some `x` behind it, it stands for client ids that begin with `$`, or for those that don't
abbrev pub fresh_base : Bool → List ℕ
fresh_base true = codes "$client"
fresh_base false = codes "client"

-- each such text of up to 289 `x` is named
abbrev pub AllNamed : List PlanRule → (old new : List Row) → List ℕ → Type 0
AllNamed plan old new base = (count : ℕ) → count < 290
    → is_named_in plan old new (base ++ replicate count 120) ≡ true

-- a client id is asked about, and each text that could stand for those that begin with `$`, or for
-- the others, is named
pub record IsNoClient (plan : List PlanRule) (old new : List Row) : Type 0 where
  pub asks : asks_in old new ≡ true
  pub dollar : Bool
  pub named : AllNamed plan old new (fresh_base dollar)
