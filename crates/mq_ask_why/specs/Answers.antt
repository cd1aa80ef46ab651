-- The answers to the questions of a file.
use Rattle.std.specs.Option.{option_map}
use Rattle.std.specs.Prelude.{All, Contains, Err, List, Ok, Result, map, ℕ, ⊤, ◌≡◌}
use Rattle.mq_acl.specs.AccessLists.{allow_by}
use Rattle.mq_acl.specs.Views.{row_views}
use Rattle.mq_acl.specs.declared.row.Row.{Row}
use Rattle.mq_acl.specs.declared.rules.Rules.{Rules}
use Rattle.mq_ask.specs.Lists.{AreRows}
use Rattle.mq_ask.specs.declared.failure.Failure.{Failure}
use Rattle.mq_ask.specs.declared.failure.Failure.TheVariants as failure
use Rattle.mq_ask.specs.declared.outcome.Outcome.{Outcome}
use Rattle.mq_ask.specs.declared.outcome.Outcome.TheVariants.{Clear, Remark}
use Rattle.mq_ask_why.specs.Questions.{Asking, asks_view, numbered_views, question_view, questions_of}
use Rattle.mq_ask_why.specs.declared.answers.Answer.{Answer}
use Rattle.mq_ask_why.specs.declared.question.QuestionKind.{QuestionKind}
use Rattle.mq_ask_why.specs.declared.read.Numbered.{Numbered}
use Rattle.mq_differences.specs.Reasons.{first_grant, is_grant, reason_of}

-- it is whether the client may, and by which lines
pub record IsAnswer (rules : Rules) (rows : List Row) (asking : Asking) (a : Answer) : Type 0 where
  pub reason : a.verdict.reason
      ≡ reason_of rules rows asking.client asking.user asking.topic asking.access
  pub grant : a.verdict.grant ≡ option_map (λ row. row.line)
      (first_grant rules rows asking.client asking.user asking.topic asking.access)
  pub may : is_grant a.verdict.reason
      ≡ allow_by rules (row_views rows) asking.client asking.user asking.topic asking.access

-- it is so for its own question
abbrev pub IsAnswered : Rules → List Row → Answer → Type 0
IsAnswered rules rows a = IsAnswer rules rows (question_view a.question.now) a

-- what is asked, as lines ask it that have no fault
abbrev pub asked_views : List Answer → List (Result Asking QuestionKind)
asked_views answers = map (λ a. Ok (question_view a.question.now)) answers

abbrev pub asking_views : List Numbered → List (Result Asking QuestionKind)
asking_views all = map (λ n. asks_view n.asks) all

-- each line of the questions that isn't blank asks, and these are the answers, in the lines' order
pub record AreAnswers (rules : Rules) (text questions : List ℕ) (answers : List Answer)
    : Type 0 where
  pub rows : List Row
  pub are_rows : AreRows rules text rows
  pub asked : asked_views answers ≡ map (λ q. q.1) (questions_of questions)
  pub answered : All (IsAnswered rules rows) answers

-- the outcome is that each of the questions has its answer
abbrev pub AreAnswered : Rules → (text questions : List ℕ) → Outcome → Type 0
AreAnswered rules text questions Clear =
    (answers : List Answer) × AreAnswers rules text questions answers
AreAnswered rules text questions Remark = ⊥

-- a line of this file asks nothing
abbrev pub IsQuestionFailure : (file : List ℕ) → List Numbered → Failure → Type 0
IsQuestionFailure file all (failure.Question name line words) =
    (name.now ≡ file) × ((kind : QuestionKind) × Contains (numbered_views all) (line, Err kind))
IsQuestionFailure file all failure.Memory = ⊤
IsQuestionFailure file all other = ⊥
