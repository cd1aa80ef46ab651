-- Retained messages: which a publish stores, and which a subscribe is sent (MQTT 5.0, sections 3.3.1.3 and 3.8.3.1).
use Rattle.std.specs.Prelude.{ℕ, Bool, true, false, List, [], ◌∷◌, length, map, min, ◌==◌, ◌&&◌}
use Rattle.std.specs.Prelude.{◌||◌, not, nat_le, Option, None, is_none, if◌then◌else◌}
use Rattle.std.specs.Option.{option_map_or}
use Rattle.std.specs.List.{filter, filter_map, list_any}
use Rattle.mq_acl.specs.AccessLists.{AccessList, allowed}
use Rattle.mq_acl.specs.declared.access.Direction.TheVariants.{Reading}
use Rattle.mq_world.specs.Lists.{Text, same_text, with_row}
use Rattle.mq_world.specs.World.{World, Subscription, Message, Retained, Copy, retained_cmp}
use Rattle.mq_world.specs.World.{same_key, subscriptions_of}
use Rattle.mq_world.specs.Clock.{deadline_of, is_over, time_left}
use Rattle.mq_world.specs.Sessions.{user_of}
use Rattle.mq_world.specs.Copies.{filter_matches}

-- ## What a publish leaves

-- a message with RETAIN is stored, but not without a payload (section 3.3.1.3) or with an expiry interval of 0 (own)
abbrev pub is_stored : Message → Bool
is_stored m = m.retain && not (length m.payload == 0)
    && not (option_map_or (λ seconds. seconds == 0) m.expiry false)

abbrev pub retained_of : ℕ → Message → Retained
retained_of now m = record {
  topic = m.topic;
  payload = m.payload;
  qos = m.qos;
  publisher = m.publisher;
  deadline = deadline_of now m.expiry;
}

abbrev pub has_topic : Text → Retained → Bool
has_topic topic kept = same_text kept.topic topic

-- without RETAIN all stay; with it the one of the topic goes, and the message takes its place if it is stored
unfoldable pub retained_after : ℕ → List Retained → Message → List Retained
retained_after now retained m =
    if not m.retain then retained
    else if is_stored m then with_row retained_cmp (retained_of now m) retained
    else filter (λ kept. not (has_topic m.topic kept)) retained

-- there is no room for another topic's message (own)
abbrev pub is_full : Option ℕ → List Retained → Message → Bool
is_full limit retained m =
    is_stored m && not (list_any (has_topic m.topic) retained)
    && option_map_or (λ most. nat_le most (length retained)) limit false

-- those whose deadline has not come
abbrev pub without_expired : ℕ → List Retained → List Retained
without_expired now retained = filter (λ kept. not (is_over now kept.deadline)) retained

-- ## What a subscribe is sent

-- with Retain Handling 0 always, with 1 if there was no such subscription, and never to a shared one (section 3.8.3.1)
abbrev pub asks_for_retained : List Subscription → Subscription → Bool
asks_for_retained subscriptions s =
    is_none s.share
    && (s.options.handling == 0
    || (s.options.handling == 1 && not (list_any (same_key s) subscriptions)))

-- messages that match and that the client may read, but with No Local none of its own
abbrev pub is_sent : Option AccessList → Option Text → Subscription → Retained → Bool
is_sent access user s kept =
    filter_matches s.filter kept.topic && allowed access s.client user kept.topic Reading
    && not (s.options.no_local && same_text kept.publisher s.client)

-- its copy has RETAIN, what is left of its interval, and the identifier of this subscription alone
abbrev pub retained_copy : ℕ → Subscription → Retained → Copy
retained_copy now s kept = record {
  client = s.client;
  topic = kept.topic;
  payload = kept.payload;
  qos = min kept.qos s.options.qos;
  retain = true;
  expiry = time_left now kept.deadline;
  identifiers = filter_map (λ o. o.identifier) (s.options ∷ []);
  group = None;
}

-- for each retained message, in the order of topics
unfoldable pub retained_copies : ℕ → Option AccessList → Option Text → List Retained
    → Subscription → List Copy
retained_copies now access user retained s =
    map (retained_copy now s) (filter (is_sent access user s) retained)

-- the copies that a subscribe is sent
abbrev pub sent_to : World → Subscription → List Copy
sent_to w s =
    if asks_for_retained (subscriptions_of w) s
    then retained_copies w.moment w.access (user_of w.sessions s.client) w.retained s
    else []
