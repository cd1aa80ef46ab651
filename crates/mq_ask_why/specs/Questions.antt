-- What the lines of a file of questions ask.
use Rattle.std.specs.List.{enumerate_from, flat_map}
use Rattle.std.specs.Prelude.{Err, List, None, Ok, Option, Result, Some, [], codes, length, map, option_and_then}
use Rattle.std.specs.Prelude.{if◌then◌else◌, option_map, string_bytes, ℕ, ◌==◌, ◌∷◌, ◌≡◌}
use Rattle.mq_acl.specs.Lines.{lines}
use Rattle.mq_acl.specs.declared.access.Direction.{Direction}
use Rattle.mq_ask.specs.Words.{access_named}
use Rattle.mq_ask_why.specs.declared.question.AccessQuestion.{AccessQuestion}
use Rattle.mq_ask_why.specs.declared.question.QuestionKind.{QuestionKind}
use Rattle.mq_ask_why.specs.declared.question.QuestionKind.TheVariants as kinds
use Rattle.mq_ask_why.specs.declared.read.Numbered.{Numbered}
use Rattle.mq_jsonl.specs.Objects.{names_of}
use Rattle.mq_jsonl.specs.Reading.{is_blank}
use Rattle.mq_topic.specs.Texts.{is_name}
use Rattle.serde_json.specs.Data.{Data, Members}
use Rattle.serde_json.specs.Find.{as_object, as_str, get}
use Rattle.serde_json.specs.Read.{read}

-- what a line asks: whether this client may read the topic, or write it
pub record Asking : Type 0 where
  pub client : List ℕ
  pub user : Option (List ℕ)
  pub topic : List ℕ
  pub access : Direction

-- the text under this name
abbrev pub text_in : (name : List ℕ) → Data → Option (List ℕ)
text_in name d = option_and_then as_str (get name d)

abbrev pub count_of : Option Members → ℕ
count_of None = 0
count_of (Some ms) = length (names_of ms)

-- how many members an object has; another value has none
abbrev pub member_count : Data → ℕ
member_count d = count_of (as_object d)

-- how many a question has: a user name may be left out
abbrev pub wanted_count : (user : Option (List ℕ)) → ℕ
wanted_count None = 3
wanted_count (Some user) = 4

-- what these texts ask, if they are all members that there are
abbrev pub asked_by : (count : ℕ) → (client user topic : Option (List ℕ)) → Option Direction
    → Option Asking
asked_by count (Some client) user (Some topic) (Some access) =
    if count == wanted_count user
    then Some (record { client = client; user = user; topic = topic; access = access }) else None
asked_by count client user topic access = None

-- what the members of an object ask: no other may stand there
abbrev pub asked_in : Data → Option Asking
asked_in d =
    asked_by (member_count d) (text_in (codes "client") d) (text_in (codes "user") d)
    (text_in (codes "topic") d) (option_and_then access_named (text_in (codes "access") d))

abbrev pub with_name : Option Asking → Result Asking QuestionKind
with_name None = Err kinds.Members
with_name (Some asking) = if is_name asking.topic then Ok asking else Err kinds.Topic

abbrev pub asked_of : Option Data → Result Asking QuestionKind
asked_of None = Err kinds.NotJson
asked_of (Some d) = with_name (asked_in d)

-- what a line asks, or why it asks nothing
abbrev pub asking_of : (line : List ℕ) → Result Asking QuestionKind
asking_of line = asked_of (read line)

-- the same with the number of the line; a blank one is passed by
abbrev pub asked_at : ℕ → (line : List ℕ) → List (ℕ × Result Asking QuestionKind)
asked_at number line = if is_blank line then [] else (number, asking_of line) ∷ []

abbrev pub asked_from : ℕ → List (List ℕ) → List (ℕ × Result Asking QuestionKind)
asked_from number all =
    flat_map (λ numbered. asked_at numbered.0 numbered.1) (enumerate_from number all)

-- what the lines of the text ask
abbrev pub questions_of : (text : List ℕ) → List (ℕ × Result Asking QuestionKind)
questions_of text = asked_from 1 (lines text)

-- ## What the values of the code stand for

abbrev pub question_view : AccessQuestion → Asking
question_view q = record {
  client = string_bytes q.client;
  user = option_map string_bytes q.user;
  topic = q.topic;
  access = q.access;
}

abbrev pub asks_view : Result AccessQuestion QuestionKind → Result Asking QuestionKind
asks_view (Ok question) = Ok (question_view question)
asks_view (Err kind) = Err kind

abbrev pub numbered_views : List Numbered → List (ℕ × Result Asking QuestionKind)
numbered_views all = map (λ n. (n.line, asks_view n.asks)) all

-- what a step gives where it may want memory
abbrev pub Fails : QuestionKind → Result Asking QuestionKind → Type 0
Fails kinds.Memory asks = Unit {0}
Fails kind asks = asks ≡ Err kind

abbrev pub Gives : Result AccessQuestion QuestionKind → Result Asking QuestionKind → Type 0
Gives (Ok question) asks = asks ≡ Ok (question_view question)
Gives (Err kind) asks = Fails kind asks
