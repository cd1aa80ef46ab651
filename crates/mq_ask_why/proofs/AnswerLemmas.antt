-- The questions that are answered, one after the other.
use Rattle.std.proofs.Common.{◌≡◌, ◌++◌, ◌∷◌, ◌+◌, ◌<◌, ℕ, List, [], Ok, map, take, length, get_or}
use Rattle.std.proofs.Common.{All, ap, arith, refl}
use Rattle.std.proofs.lemmas.Grind.{common_steps}
use Rattle.std.proofs.lemmas.List.Elements.{All-push}
use Rattle.mq_acl.specs.declared.row.Row.{Row}
use Rattle.mq_acl.specs.declared.rules.Rules.{Rules}
use Rattle.mq_ask_why.specs.Answers.{IsAnswered, asked_views, asking_views}
use Rattle.mq_ask_why.specs.Questions.{asks_view, numbered_views, question_view}
use Rattle.mq_ask_why.specs.declared.answers.Answer.{Answer}
use Rattle.mq_ask_why.specs.declared.read.Numbered.{Numbered}

-- what the lines ask, without their numbers
pub asking_numbered : (all : List Numbered)
    → asking_views all ≡ map (λ q. q.1) (numbered_views all)
asking_numbered [] = refl
asking_numbered (n ∷ all) = ap (λ l. asks_view n.asks ∷ l) (asking_numbered all)

-- one more question is answered
pub asked_more : (all : List Answer) (lines : List Numbered) (i : ℕ) (n : Numbered) (a : Answer)
    → i < length lines → n ≡ get_or lines i n → asks_view n.asks ≡ Ok (question_view a.question.now)
    → asked_views all ≡ asking_views (take i lines)
    → asked_views (all ++ (a ∷ [])) ≡ asking_views (take (i + 1) lines)
asked_more all lines i n a h e asks k = grind (arith, common_steps)

pub answered_more : (rules : Rules) (rows : List Row) (all : List Answer) (a : Answer)
    → All (IsAnswered rules rows) all → IsAnswered rules rows a
    → All (IsAnswered rules rows) (all ++ (a ∷ []))
answered_more rules rows all a h is = All-push (IsAnswered rules rows) all a h is
