-- Which worlds a router stands for, and how it answers for each of them.
use Rattle.std.specs.Prelude.{◌≡◌, ℕ, ◌+◌, List, Option, Some, None, Result, MatchResult, ◌⊎◌}
use Rattle.mq_acl.specs.AccessLists.{AccessList}
use Rattle.mq_acl.specs.declared.rules.Rules.{Rules}
use Rattle.mq_world.specs.World.{World, Limits, Session, Subscription, Retained, Request, Reply}
use Rattle.mq_world.specs.World.{IsWorld}
use Rattle.mq_world.specs.Turns.{SameInTurn, in_turn}
use Rattle.mq_world.specs.Counts.{filters_of, topics_of, steps}
use Rattle.mq_retained.specs.Deadlines.{Pair, Indexes}
use Rattle.mq_world.specs.Refusals.{refusal}
use Rattle.mq_world.specs.Answers.{answer}
use Rattle.mq_world.specs.After.{after}
use Rattle.mq_world.specs.Views.{reply_of}
use Rattle.mq_world.specs.declared.answer.Answer.{Answer}
use Rattle.mq_world.specs.declared.refusal.Refusal.{Refusal}
use Rattle.mq_world.specs.declared.refusal.Refusal.TheVariants.{Memory}

-- what a router holds: no stamps, and no count of commands. The members of each group stand in their turn; `filter_keys`
-- and `topic_keys` are the keys of its two trees, and `deadlines` the pairs of its index, each a deadline and a topic
pub record State : Type 0 where
  pub limits : Limits
  pub rules : Rules
  pub moment : ℕ
  pub access : Option AccessList
  pub sessions : List Session
  pub subscriptions : List Subscription
  pub retained : List Retained
  pub filter_keys : List (List (List ℕ))
  pub topic_keys : List (List (List ℕ))
  pub deadlines : List Pair

-- what the world has: its subscriptions in any order, but the members of each group in the order of their stamps; and in
-- the trees and the index its filters, topics and deadlines, no others
pub record Holds (s : State) (w : World) : Type 0 where
  pub limits : s.limits ≡ w.limits
  pub rules : s.rules ≡ w.rules
  pub moment : s.moment ≡ w.moment
  pub access : s.access ≡ w.access
  pub sessions : s.sessions ≡ w.sessions
  pub subscriptions : SameInTurn s.subscriptions (in_turn w)
  pub retained : s.retained ≡ w.retained
  pub filter_keys : s.filter_keys ≡ filters_of w
  pub topic_keys : s.topic_keys ≡ topics_of w.retained
  pub deadlines : Indexes s.deadlines w.retained

-- the router stands for the world
unfoldable pub StandsFor : State → World → Type 0
StandsFor s w = Holds s w × IsWorld w

-- the request is accepted and answered as in the world, and then the router stands for the next one
pub record Answers (w : World) (request : Request) (reply : Reply) (new : State) : Type 0 where
  pub accepted : refusal w request ≡ None
  pub reply_is : reply ≡ answer w request
  pub stands : StandsFor new (after w request)

-- lack of memory, or the refusal of the world
abbrev pub Refuses : World → Request → Refusal → Type 0
Refuses w request refused = (refused ≡ Memory) ⊎ (refusal w request ≡ Some refused)

-- what an answer says of every world that the router stands for
abbrev pub AnswersFor : State → Request → Result Answer Refusal → State → Type 0
AnswersFor old request result new =
    (w : World) → StandsFor old w → MatchResult result (λ a. Answers w request (reply_of a) new)
    (λ r. Refuses w request r)

-- how many steps an answer adds to those before; a refusal adds none, and lack of memory may add any
abbrev pub CountsFor : State → Request → Result Answer Refusal → ℕ → ℕ → Type 0
CountsFor old request result before now =
    (w : World) → StandsFor old w →
    MatchResult result (λ a. now ≡ before + steps w request) (λ r. (r ≡ Memory) ⊎ (now ≡ before))
