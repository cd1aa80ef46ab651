-- The deadlines of retained messages as an index keeps them: pairs of a deadline and a topic.
use Rattle.std.specs.Prelude.{◌≡◌, ℕ, ◌<◌, ◌≤◌, Bool, true, false, ◌==◌, ◌&&◌, ◌||◌, not, List}
use Rattle.std.specs.Prelude.{Option, Some}
use Rattle.std.specs.Option.{option_map_or, option_and_then}
use Rattle.std.specs.List.{list_any, find}
use Rattle.std.specs.declared.cmp.Ordering.{Ordering}
use Rattle.std.specs.Ordering.{on, then_cmp, nat_cmp}
use Rattle.mq_world.specs.Lists.{Text, same_text, text_cmp}
use Rattle.mq_world.specs.World.{Retained}
use Rattle.mq_world.specs.Retained.{has_topic}
use Rattle.mq_world.specs.Clock.{is_over}

-- a deadline and a topic
abbrev pub Pair : Type 0
Pair = ℕ × Text

abbrev pub is_pair : ℕ → Text → Pair → Bool
is_pair d topic pair = pair.0 == d && same_text pair.1 topic

abbrev pub has_pair : ℕ → Text → List Pair → Bool
has_pair d topic pairs = list_any (is_pair d topic) pairs

-- the pair, if there is one, is this one
abbrev pub names : Option Pair → ℕ → Text → Bool
names pair d topic = option_map_or (is_pair d topic) pair false

-- the pair joins the others
abbrev pub Adds : Option Pair → List Pair → List Pair → Type 0
Adds pair old new = (d : ℕ) (topic : Text)
    → has_pair d topic new ≡ (names pair d topic || has_pair d topic old)

-- the pair leaves the others
abbrev pub Drops : Option Pair → List Pair → List Pair → Type 0
Drops pair old new = (d : ℕ) (topic : Text)
    → has_pair d topic new ≡ (not (names pair d topic) && has_pair d topic old)

-- a pair of this topic that is due leaves the others
pub record TakesDue (moment : ℕ) (topic : Text) (old new : List Pair) : Type 0 where
  pub deadline : ℕ
  pub due : deadline ≤ moment
  pub was_there : has_pair deadline topic old ≡ true
  pub leaves : Drops (Some (deadline, topic)) old new

-- no pair is due
abbrev pub NoneDue : ℕ → List Pair → Type 0
NoneDue moment pairs = (d : ℕ) (topic : Text) → has_pair d topic pairs ≡ true → moment < d

-- the deadline of the message that is retained for a topic, if there are both
abbrev pub deadline_at : Text → List Retained → Option ℕ
deadline_at topic retained = option_and_then (λ kept. kept.deadline)
    (find (has_topic topic) retained)

abbrev pub is_deadline : ℕ → Option ℕ → Bool
is_deadline d deadline = option_map_or (λ n. n == d) deadline false

-- the message's deadline is at the moment or before it
abbrev pub is_due : ℕ → Retained → Bool
is_due moment kept = is_over moment kept.deadline

-- the pairs are those of the messages with a deadline, and no others
abbrev pub Indexes : List Pair → List Retained → Type 0
Indexes pairs retained = (d : ℕ) (topic : Text)
    → has_pair d topic pairs ≡ is_deadline d (deadline_at topic retained)

abbrev pub SamePairs : List Pair → List Pair → Type 0
SamePairs xs ys = (d : ℕ) (topic : Text) → has_pair d topic xs ≡ has_pair d topic ys

-- by deadline, then by the bytes of the topic
abbrev pub pair_cmp : Pair → Pair → Ordering
pair_cmp = then_cmp (on (λ pair. pair.0) nat_cmp) (on (λ pair. pair.1) text_cmp)
