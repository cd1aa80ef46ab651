-- Whether a client may read and write a topic, and by which lines, as JSON: an object for each access.
use Rattle.std.specs.Io.KnownBytes.{Appends}
use Rattle.std.specs.List.{flat_map}
use Rattle.std.specs.Prelude.{◌++◌, ℕ, List, None, Option, Some, codes, true}
use Rattle.mq_acl.specs.declared.access.Direction.{Direction}
use Rattle.mq_acl.specs.declared.access.Direction.TheVariants.{Reading, Writing}
use Rattle.mq_acl.specs.declared.rules.Rules.{Rules}
use Rattle.mq_ask.specs.Words.{access_text}
use Rattle.mq_ask_why.specs.Answers.{AreAnswers}
use Rattle.mq_ask_why.specs.Why.{Explains}
use Rattle.mq_ask_why.specs.declared.answers.Answer.{Answer}
use Rattle.mq_ask_why.specs.declared.why.Explanation.{Explanation}
use Rattle.mq_differences.specs.Reasons.{is_grant}
use Rattle.mq_differences.specs.declared.reason.Reason.{Reason}
use Rattle.mq_differences.specs.declared.reason.Reason.TheVariants.{Broker, Deny}
use Rattle.mq_differences.specs.declared.verdict.Verdict.{Verdict}
use Rattle.mq_print.specs.Lists.{ListView, list_view, shown_line}
use Rattle.mq_print.specs.Objects.{line_data, object_text}
use Rattle.mq_print.specs.declared.list.ListText.{ListText}
use Rattle.serde_json.specs.Data.{Members, boolean, no_members, put, string}

-- the line that denies it, if one does
abbrev pub deny_line : Reason → Option ℕ
deny_line (Deny line) = Some line
deny_line other = None

-- that the broker refuses it by itself stands there only where it does
abbrev pub with_refused : Reason → Members → Members
with_refused Broker members = put (codes "refused") (boolean true) members
with_refused other members = members

-- an access and its verdict: each member by its name
abbrev pub verdict_members : ListView → Direction → Verdict → Members
verdict_members list access verdict =
    with_refused verdict.reason (
    put (codes "grant") (line_data (shown_line list verdict.grant)) (
    put (codes "deny") (line_data (shown_line list (deny_line verdict.reason))) (
    put (codes "allowed") (boolean (is_grant verdict.reason)) (
    put (codes "access") (string (access_text access)) no_members))))

abbrev pub verdict_text : ListView → Direction → Verdict → List ℕ
verdict_text list access verdict = object_text (verdict_members list access verdict)

-- the object of reading, and behind it the one of writing
abbrev pub explanation_text : ListView → (reading writing : Verdict) → List ℕ
explanation_text list reading writing =
    verdict_text list Reading reading ++ verdict_text list Writing writing

-- an object for each question: that of the access which it asks about
abbrev pub answer_text : ListView → Answer → List ℕ
answer_text list a = verdict_text list a.question.now.access a.verdict

abbrev pub answers_text : ListView → List Answer → List ℕ
answers_text list answers = flat_map (answer_text list) answers

-- what is written is that of whether this client may read and write this topic
pub record IsShown (rules : Rules) (list : ListText) (client : List ℕ) (user : Option (List ℕ))
    (topic : List ℕ) (before after : Option (List ℕ)) : Type 0 where
  pub explanation : Explanation
  pub explains : Explains rules list.text.now client user topic explanation
  pub written : Appends before after
      (explanation_text (list_view list) explanation.reading explanation.writing)

-- what is written is that of the answers to these questions, in their order
pub record AreShown (rules : Rules) (list : ListText) (questions : List ℕ)
    (before after : Option (List ℕ)) : Type 0 where
  pub answers : List Answer
  pub are : AreAnswers rules list.text.now questions answers
  pub written : Appends before after (answers_text (list_view list) answers)
