-- Which copies of a message a publish makes (MQTT 5.0, section 3.3.4), found by testing each subscription of each session.
use Rattle.std.specs.Prelude.{Bool, List, length, map, min, ◌==◌, ◌&&◌, not, Option, Some, None}
use Rattle.std.specs.Prelude.{is_none, if◌then◌else◌}
use Rattle.std.specs.List.{filter, filter_map, list_any}
use Rattle.mq_topic.specs.Levels.{levels}
use Rattle.mq_topic.specs.Matching.{matches}
use Rattle.mq_acl.specs.AccessLists.{AccessList, allowed}
use Rattle.mq_acl.specs.declared.access.Direction.TheVariants.{Reading}
use Rattle.mq_world.specs.Lists.{Text, same_text, greatest, ascending}
use Rattle.mq_world.specs.World.{Session, Subscription, SubscriptionOptions, Group, Message, Copy}

abbrev pub filter_matches : Text → Text → Bool
filter_matches filter topic = matches (levels filter) (levels topic)

-- a subscription of the client alone that matches; one with No Local (section 3.8.3.1) does not where the client is the
-- publisher
abbrev pub takes_part : Message → Text → Subscription → Bool
takes_part m id s =
    is_none s.share && same_text s.client id && filter_matches s.filter m.topic
    && not (s.options.no_local && same_text id m.publisher)

-- the one copy for a client, or for it in a group, by the subscriptions with these options: the lesser of the message's
-- QoS and the greatest granted one; RETAIN if the message has it and some of them ask for Retain As Published (section
-- 3.3.1.3); and all their identifiers, ascending, equal ones repeated
abbrev pub copy_by : Text → Option Group → Message → List SubscriptionOptions → Copy
copy_by client group m options = record {
  client = client;
  topic = m.topic;
  payload = m.payload;
  qos = min m.qos (greatest (map (λ o. o.qos) options));
  retain = m.retain && list_any (λ o. o.retain_as_published) options;
  expiry = m.expiry;
  identifiers = ascending (filter_map (λ o. o.identifier) options);
  group = group;
}

-- the options of the client's subscriptions that take part
abbrev pub options_for : List Subscription → Message → Text → List SubscriptionOptions
options_for subscriptions m id = map (λ s. s.options) (filter (takes_part m id) subscriptions)

-- one copy for a client with this user name, unless no subscription takes part or it may not read the topic
abbrev pub unshared_copy : Option AccessList → List Subscription → Message → Text → Option Text
    → Option Copy
unshared_copy access subscriptions m id user =
    let options = options_for subscriptions m id in
    if not (length options == 0) && allowed access id user m.topic Reading
    then Some (copy_by id None m options)
    else None

-- for each session, by client id
unfoldable pub unshared_copies : Option AccessList → List Session → List Subscription → Message
    → List Copy
unshared_copies access sessions subscriptions m =
    filter_map (λ session. unshared_copy access subscriptions m session.id session.user) sessions
