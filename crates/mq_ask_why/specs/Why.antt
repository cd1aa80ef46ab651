-- Which lines of a list decide whether a client may read and write a topic.
use Rattle.std.specs.Option.{option_map}
use Rattle.std.specs.Prelude.{List, None, Ok, Option, Some, false, true, ℕ, ◌≡◌}
use Rattle.mq_acl.specs.AccessLists.{allow_by}
use Rattle.mq_acl.specs.Rows.{AclRow, rows_by}
use Rattle.mq_acl.specs.Views.{row_views}
use Rattle.mq_acl.specs.declared.access.Direction.{Direction}
use Rattle.mq_acl.specs.declared.access.Direction.TheVariants.{Reading, Writing}
use Rattle.mq_acl.specs.declared.row.Row.{Row}
use Rattle.mq_acl.specs.declared.rules.Rules.{Rules}
use Rattle.mq_ask.specs.Lists.{AreRows}
use Rattle.mq_ask.specs.declared.failure.Failure.{Failure}
use Rattle.mq_ask.specs.declared.failure.Failure.TheVariants as failure
use Rattle.mq_ask.specs.declared.outcome.Outcome.{Outcome}
use Rattle.mq_ask.specs.declared.outcome.Outcome.TheVariants.{Clear, Remark}
use Rattle.mq_ask_why.specs.declared.why.Explanation.{Explanation}
use Rattle.mq_differences.specs.Reasons.{first_grant, is_grant, reason_of}
use Rattle.mq_topic.specs.Texts.{is_name}

-- it shows whether the client may read and write the topic, and the lines that decide it
pub record Explains (rules : Rules) (text client : List ℕ) (user : Option (List ℕ))
    (topic : List ℕ) (e : Explanation) : Type 0 where
  pub rows : List Row
  pub are_rows : AreRows rules text rows
  pub reading : e.reading.reason ≡ reason_of rules rows client user topic Reading
  pub writing : e.writing.reason ≡ reason_of rules rows client user topic Writing
  pub reading_grant : e.reading.grant
      ≡ option_map (λ row. row.line) (first_grant rules rows client user topic Reading)
  pub writing_grant : e.writing.grant
      ≡ option_map (λ row. row.line) (first_grant rules rows client user topic Writing)
  pub may_read : is_grant e.reading.reason
      ≡ allow_by rules (row_views rows) client user topic Reading
  pub may_write : is_grant e.writing.reason
      ≡ allow_by rules (row_views rows) client user topic Writing

-- where it is asked whether the client may, it is shown
abbrev pub SaysWhether : Rules → (may : Option Direction) → List AclRow → (client : List ℕ)
    → Option (List ℕ) → (topic : List ℕ) → Outcome → Type 0
SaysWhether rules None rows client user topic outcome = outcome ≡ Clear
SaysWhether rules (Some direction) rows client user topic Clear =
    allow_by rules rows client user topic direction ≡ true
SaysWhether rules (Some direction) rows client user topic Remark =
    allow_by rules rows client user topic direction ≡ false

-- and so is it of the list with this text
pub record IsExplained (rules : Rules) (may : Option Direction) (text client : List ℕ)
    (user : Option (List ℕ)) (topic : List ℕ) (outcome : Outcome) : Type 0 where
  pub rows : List AclRow
  pub read : rows_by rules text ≡ Ok rows
  pub shown : SaysWhether rules may rows client user topic outcome

-- what is to be a topic is none
abbrev pub IsTopicFailure : (topic : List ℕ) → Failure → Type 0
IsTopicFailure topic (failure.Topic text) = (text.now ≡ topic) × (is_name topic ≡ false)
IsTopicFailure topic other = ⊥
