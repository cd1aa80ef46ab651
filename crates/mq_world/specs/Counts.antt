-- How many nodes, rows and steps there are (own).
use Rattle.std.specs.Prelude.{ℕ, ◌+◌, List, length, map, if◌then◌else◌}
use Rattle.std.specs.List.{filter}
use Rattle.mq_topic.specs.Levels.{levels, level_order}
use Rattle.mq_topic.specs.Prefixes.{capped}
use Rattle.mq_topic.specs.Prefixes.{prefixes, met_by_name, met_by_filter}
use Rattle.mq_world.specs.Lists.{in_order}
use Rattle.mq_world.specs.World.{World, Subscription, Retained, Request, Connect, Disconnect}
use Rattle.mq_world.specs.World.{Subscribe, Unsubscribe, Publish, SetAcl, Advance, Stat}
use Rattle.mq_world.specs.World.{subscription_of}
use Rattle.mq_world.specs.World.{subscriptions_of}
use Rattle.mq_world.specs.Clock.{is_over}
use Rattle.mq_world.specs.Retained.{asks_for_retained}
use Rattle.mq_world.specs.declared.answer.Outcome.{Outcome}
use Rattle.mq_world.specs.declared.answer.Outcome.TheVariants.{Counts}

-- the levels of the filters, share names left out, in level order, each once
abbrev pub filters_among : List Subscription → List (List (List ℕ))
filters_among subscriptions = in_order level_order (map (λ s. levels s.filter) subscriptions)

unfoldable pub filters_of : World → List (List (List ℕ))
filters_of w = filters_among (subscriptions_of w)

-- the levels of the topics of all retained messages
abbrev pub topics_of : List Retained → List (List (List ℕ))
topics_of retained = map (λ kept. levels kept.topic) retained

-- the nodes are the nonempty prefixes of filters and of topics
unfoldable pub counts : World → Outcome
counts w =
    Counts (capped (length (prefixes (filters_of w)) + length (prefixes (topics_of w.retained))))
    (capped (length w.retained))
    (capped (length w.rows))

-- ## Steps of an accepted command

-- a publish enters the prefixes of filters that match one of the topic; a subscribe that asks for retained messages the
-- prefixes of topics that one of its filter matches; an advance takes out the retained messages whose deadline comes
unfoldable pub steps : World → Request → ℕ
steps w (Connect id user clean interval) = 0
steps w (Disconnect id) = 0
steps w (Subscribe id text options) =
    let s = subscription_of id text options in
    if asks_for_retained (subscriptions_of w) s
    then length (met_by_filter (levels s.filter) (prefixes (topics_of w.retained)))
    else 0
steps w (Unsubscribe id text) = 0
steps w (Publish m) = length (met_by_name (levels m.topic) (prefixes (filters_of w)))
steps w (SetAcl text) = 0
steps w (Advance seconds) =
    length (filter (λ kept. is_over (w.moment + seconds) kept.deadline) w.retained)
steps w Stat = 0
