-- How the copies of a message are made from what is found for its topic.
use Rattle.std.specs.Prelude.{ℕ, Bool, List, map, Option, if◌then◌else◌, ◌&&◌, not, is_none, Some}
use Rattle.std.specs.Prelude.{None}
use Rattle.std.specs.Option.{option_map}
use Rattle.std.specs.List.{filter_map, filter, flat_map}
use Rattle.mq_acl.specs.AccessLists.{AccessList, allowed}
use Rattle.mq_world.specs.Lists.{Text, same_text, text_cmp, in_order}
use Rattle.mq_world.specs.World.{Session, Subscription, Message, Copy, SubscriptionOptions}
use Rattle.mq_world.specs.Waiting.{waiting_copy, with_qos}
use Rattle.mq_acl.specs.declared.access.Direction.TheVariants.{Reading}
use Rattle.mq_world.specs.World as world
use Rattle.mq_world.specs.Sessions.{is_reader, user_of}
use Rattle.mq_router.specs.delivery.Summaries.{Summary, copy_from, summary_of}
use Rattle.mq_sessions.specs.Queue.{QueueItem, room_for, queue_item}
use Rattle.mq_sessions.specs.Fates.{is_sent, waits}
use Rattle.mq_sessions.specs.declared.sessions.session.Fate.{Fate}
use Rattle.mq_subscriptions.specs.Filters.{Entry}
use Rattle.mq_subscriptions.specs.Turns.{next_in, turns_of}
use Rattle.mq_subscriptions.specs.Matches.{clients_of, options_among}

-- what begins to wait for the client of a session, until this deadline or for ever
abbrev pub begins : ℕ → Option AccessList → List Subscription → Message → Option ℕ → Session
    → Option QueueItem
begins limit access subscriptions m deadline session =
    option_map (queue_item session.id deadline) (waiting_copy limit access subscriptions m session)

abbrev pub queued_by : ℕ → Option AccessList → List Session → List Subscription → Message
    → Option ℕ → List QueueItem
queued_by limit access sessions subscriptions m deadline =
    filter_map (begins limit access subscriptions m deadline) sessions

-- of subscriptions that match, those of the client in its own name that take part
abbrev pub gives : Message → Text → Subscription → Bool
gives m id s = is_none s.share && same_text s.client id
    && not (s.options.no_local && same_text id m.publisher)

abbrev pub gives_options : Message → Text → List Subscription → List world.SubscriptionOptions
gives_options m id rows = map (λ s. s.options) (filter (gives m id) rows)

-- the copy for a connected client that may read the topic
abbrev pub copy_for : Option AccessList → List Session → Message → Text × Summary → Option Copy
copy_for access sessions m l = if is_reader access sessions m.topic l.0 then
    Some (copy_from l.0 None m l.1) else None

abbrev pub copies_by : Option AccessList → List Session → Message → List (Text × Summary)
    → List Copy
copies_by access sessions m summaries = filter_map (copy_for access sessions m) summaries

-- what begins to wait for a client that is away and may read the topic
abbrev pub queue_item_for : ℕ → Option AccessList → List Session → Message → Option ℕ
    → Text × Summary
    → Option QueueItem
queue_item_for limit access sessions m deadline l =
    if room_for limit sessions l.0 && allowed access l.0 (user_of sessions l.0) m.topic Reading
    then option_map (queue_item l.0 deadline) (with_qos (copy_from l.0 None m l.1))
    else None

abbrev pub queue_items_by : ℕ → Option AccessList → List Session → Message → Option ℕ
    → List (Text × Summary) → List QueueItem
queue_items_by limit access sessions m deadline summaries =
    filter_map (queue_item_for limit access sessions m deadline) summaries

-- the copy, if it is sent
abbrev pub sent_by_fate : Fate → Copy → Option Copy
sent_by_fate fate copy = if is_sent fate then Some copy else None

-- what begins to wait of the copy
abbrev pub queued_by_fate : Fate → Option ℕ → Copy → Option QueueItem
queued_by_fate fate deadline copy =
    if waits fate then option_map (queue_item copy.client deadline) (with_qos copy) else None

-- the members in turn of the groups of a share name, by the filters that are found
abbrev pub turns_at : Option AccessList → List Session → Text → Text → List Entry
    → List Subscription
turns_at access sessions topic share found =
    flat_map (λ (a : Entry). turns_of
    (next_in access sessions a.rows topic (record { share = share; filter = a.filter })))
    found

-- for each client, in order, what its options come to
abbrev pub by_client : List (Text × SubscriptionOptions) → List (Text × Summary)
by_client xs = map (λ id. (id, summary_of (options_among id xs)))
    (in_order text_cmp (clients_of xs))
