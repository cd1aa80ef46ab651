-- Which subscriptions of a script are unreached.
use Rattle.std.specs.Io.KnownBytes.{Consumes, IsAtEnd}
use Rattle.std.specs.Prelude.{◌≡◌, ◌≢◌, ℕ, List, [], Ok, IfSome, Option, length, true, ◌<◌}
use Rattle.mq_acl.specs.Rows.{AclRow, rows_by}
use Rattle.mq_acl.specs.Views.{row_views}
use Rattle.mq_acl.specs.declared.row.Row.{Row}
use Rattle.mq_acl.specs.declared.rules.Rules.{Rules}
use Rattle.mq_ask.specs.Lists.{AreRows}
use Rattle.mq_ask.specs.declared.failure.Failure.{Failure}
use Rattle.mq_ask.specs.declared.outcome.Outcome.{Outcome}
use Rattle.mq_ask.specs.declared.outcome.Outcome.TheVariants.{Clear, Remark}
use Rattle.mq_jsonl.specs.Feeding.{script_limit}
use Rattle.mq_jsonl.specs.Lines.{all_lines}
use Rattle.mq_reach.specs.Faults.{has_long_at}
use Rattle.mq_reach.specs.Reach.{list_by}
use Rattle.mq_reach.specs.Search.{IsFound}
use Rattle.mq_reach.specs.Subscriptions.{Subscription, commands_of, subscriptions}
use Rattle.mq_reach.specs.Unreached.{AreUnreached}
use Rattle.mq_reach.specs.declared.search.Findings.{Findings}
use Rattle.mq_ask.specs.declared.failure.Failure.TheVariants as failure

-- some line of the script is a command
abbrev pub HasCommand : (script : List ℕ) → Type 0
HasCommand script = commands_of (all_lines script) ≢ []

-- the subscriptions of this script that are unreached under the list with this text, and no others
pub record FindsUnreached (rules : Rules) (text script : List ℕ) (f : Findings) : Type 0 where
  pub rows : List Row
  pub are_rows : AreRows rules text rows
  pub found : IsFound (list_by rules (row_views rows)) (all_lines script) f
  pub command : HasCommand script

-- whether some are unreached is shown
abbrev pub SaysWhetherNone : List Subscription → Outcome → Type 0
SaysWhetherNone unreached Clear = unreached ≡ []
SaysWhetherNone unreached Remark = unreached ≢ []

-- and so is it of the subscriptions of this script, which has a command, under the list with this text
pub record AreShown (rules : Rules) (text script : List ℕ) (outcome : Outcome) : Type 0 where
  pub rows : List AclRow
  pub read : rows_by rules text ≡ Ok rows
  pub unreached : List Subscription
  pub are_unreached : AreUnreached (list_by rules rows) (subscriptions (all_lines script)) unreached
  pub shown : SaysWhetherNone unreached outcome
  pub command : HasCommand script

-- ---- why nothing is answered
-- a reader gave a script to its end, of which no line is a command, and it has so many
abbrev pub GivesNoCommand : (before after : Option (List ℕ)) → (lines : ℕ) → Type 0
GivesNoCommand before after lines = (script : List ℕ) × Consumes before after script
    × IsAtEnd after × (commands_of (all_lines script) ≡ []) × (lines ≡ length (all_lines script))

-- a subscription of this line is too long to be asked about of the list with this text
abbrev pub IsLongAt : Rules → (text : List ℕ) → (line : ℕ) → (script : List ℕ) → Type 0
IsLongAt rules text line script = (rows : List AclRow) × (rows_by rules text ≡ Ok rows)
    × (has_long_at (list_by rules rows) line (subscriptions (all_lines script)) ≡ true)

-- what is shown of the script with this name is so of the bytes that were read
abbrev pub IsScriptFailure : Rules → (text name : List ℕ) → (before after : Option (List ℕ)) → Failure → Type 0
IsScriptFailure rules text name before after (failure.Read file error) = file.now ≡ name
IsScriptFailure rules text name before after (failure.LongScript file) =
    (file.now ≡ name) × IfSome before (λ bytes. script_limit < length bytes)
IsScriptFailure rules text name before after (failure.LongSubscription file line) =
    (file.now ≡ name) × ((given : List ℕ) × Consumes before after given
    × IsLongAt rules text line given)
IsScriptFailure rules text name before after (failure.NoCommand file lines) =
    (file.now ≡ name) × GivesNoCommand before after lines
IsScriptFailure rules text name before after (failure.Log file lines) =
    (file.now ≡ name) × GivesNoCommand before after lines
IsScriptFailure rules text name before after other = ⊥
