-- What a client that subscribes is sent of the retained messages.
use Rattle.std.specs.Prelude.{ℕ, List, None, length, map}
use Rattle.std.specs.Option.{option_copied}
use Rattle.std.specs.List.{filter}
use Rattle.std.specs.Rc.{rc_str_bytes}
use Rattle.mq_topic.specs.Levels.{levels}
use Rattle.mq_topic.specs.Prefixes.{prefixes, met_by_filter}
use Rattle.mq_world.specs.Lists.{Text}
use Rattle.mq_world.specs.World.{Subscription, Retained, Copy}
use Rattle.mq_world.specs.Retained.{retained_copy, retained_copies}
use Rattle.mq_world.specs.Counts.{topics_of}
use Rattle.mq_world.specs.Views.{options_of}
use Rattle.mq_retained.specs.Stored.{may_get}
use Rattle.mq_retained.specs.declared.retained.copies.Receiver.{Receiver}

abbrev pub subscription_for : Receiver → Subscription
subscription_for r = record {
  client = rc_str_bytes r.client.now;
  share = None;
  filter = r.filter.now;
  options = options_of r.options;
}

-- of these messages, which match
abbrev pub copies_among : Receiver → List Retained → List Copy
copies_among r messages =
    map (retained_copy r.clock.moment (subscription_for r))
    (filter (may_get r.access.now (option_copied r.user) (subscription_for r)) messages)

-- of all messages
abbrev pub copies_for : Receiver → List Retained → List Copy
copies_for r messages = retained_copies r.clock.moment r.access.now (option_copied r.user) messages
    (subscription_for r)

-- the prefixes of topics that the filter meets
abbrev pub steps_among : Text → List Retained → ℕ
steps_among filter messages = length (met_by_filter (levels filter) (prefixes (topics_of messages)))
