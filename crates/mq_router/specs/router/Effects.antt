-- What each request does to what the router holds: without stamps, by the order in which members stand.
use Rattle.std.specs.Prelude.{◌≡◌, ◌⊎◌, ℕ, ◌+◌, Bool, List, [], ◌∷◌, ◌++◌, length, map, not, Option}
use Rattle.std.specs.Prelude.{Some, None, Result, Ok, Err, MatchResult, if◌then◌else◌}
use Rattle.std.specs.List.{filter, list_any}
use Rattle.mq_topic.specs.Levels.{levels}
use Rattle.mq_topic.specs.Texts.{is_name, share_of, filter_part}
use Rattle.mq_topic.specs.Prefixes.{capped}
use Rattle.mq_topic.specs.Prefixes.{prefixes, met_by_name}
use Rattle.mq_acl.specs.AccessLists.{AccessList, allowed}
use Rattle.mq_acl.specs.declared.access.Direction.TheVariants.{Writing}
use Rattle.mq_world.specs.Lists.{Text, same_text, with_row}
use Rattle.mq_world.specs.World.{World, Row, Session, Subscription, Message, Copy, Request, Connect}
use Rattle.mq_world.specs.World.{Disconnect, Subscribe, Unsubscribe, Publish, SetAcl, Advance, Stat}
use Rattle.mq_world.specs.World.{Reply, subscription_of, session_cmp, has_id, has_key}
use Rattle.mq_world.specs.Sessions.{new_session, connected, user_of, outlives, resumes, left_by}
use Rattle.mq_world.specs.Sessions.{has_ended, is_among}
use Rattle.mq_sessions.specs.Queue.{QueueItem}
use Rattle.mq_router.specs.delivery.Copies.{queued_by}
use Rattle.mq_world.specs.Waiting.{begins_to_wait, waiting_after, resumed_copies}
use Rattle.mq_world.specs.Refusals.{Conditions, client_conditions, refusal}
use Rattle.mq_world.specs.Copies.{unshared_copies}
use Rattle.mq_world.specs.Groups.{group_copy}
use Rattle.mq_world.specs.Retained.{asks_for_retained, retained_copies, retained_after}
use Rattle.mq_world.specs.Retained.{without_expired}
use Rattle.mq_world.specs.Answers.{reason, publish_reply}
use Rattle.mq_world.specs.After.{access_of}
use Rattle.mq_world.specs.Counts.{filters_among, topics_of}
use Rattle.mq_retained.specs.Deadlines.{Indexes, is_due}
use Rattle.mq_retained.specs.Receivers.{steps_among}
use Rattle.mq_router.specs.StandsFor.{State, Refuses}
use Rattle.mq_world.specs.Turns.{SameInTurn}
use Rattle.mq_world.specs.Views.{reply_of}
use Rattle.mq_world.specs.declared.answer.Answer.{Answer}
use Rattle.mq_world.specs.declared.answer.Outcome.{Outcome}
use Rattle.mq_world.specs.declared.answer.Outcome.TheVariants.{Reason, Counts}
use Rattle.mq_world.specs.declared.refusal.Refusal.{Refusal}
use Rattle.mq_world.specs.declared.refusal.Refusal.TheVariants.{Memory, TopicName, NotAuthorized}
use Rattle.mq_subscriptions.specs.Turns.{upsert, all_turned, next_members}

abbrev pub row_without_stamp : Subscription → Row
row_without_stamp s = record { subscription = s; stamp = 0 }

abbrev pub world_of : State → World
world_of s = record {
  limits = s.limits;
  rules = s.rules;
  moment = s.moment;
  access = s.access;
  sessions = s.sessions;
  rows = map row_without_stamp s.subscriptions;
  retained = s.retained;
  accepted = 0;
}

-- ## Refusals

-- the conditions on a publish that are about its client and its topic, and not about room
abbrev pub sender_conditions : State → Text → Text → Conditions
sender_conditions s client topic =
    client_conditions s.sessions client ++ (not (is_name topic), TopicName)
    ∷ (not (allowed s.access client (user_of s.sessions client) topic Writing), NotAuthorized) ∷ []

-- ## Requests

abbrev pub member_copy : Message → Subscription → Copy
member_copy m s = group_copy m (row_without_stamp s)

abbrev pub message_copies : Option AccessList → List Session → List Subscription → Message
    → List Copy
message_copies access sessions subscriptions m =
    unshared_copies access (connected sessions) subscriptions m
    ++ map (member_copy m) (next_members access sessions subscriptions m)

-- those of a state
abbrev pub copies_now : State → Message → List Copy
copies_now s m = message_copies s.access s.sessions s.subscriptions m

abbrev pub members_now : State → Message → List Subscription
members_now s m = next_members s.access s.sessions s.subscriptions m

-- what begins to wait, until this deadline or for ever
abbrev pub queued_now : State → Message → Option ℕ → List QueueItem
queued_now s m deadline = queued_by s.limits.queued s.access s.sessions s.subscriptions m deadline

abbrev pub copies_sent : State → Subscription → List Copy
copies_sent s new =
    if asks_for_retained s.subscriptions new
    then retained_copies s.moment s.access (user_of s.sessions new.client) s.retained new
    else []

-- the nodes of both trees, the retained messages and the subscriptions
abbrev pub counts_now : State → Outcome
counts_now s =
    Counts (capped (length (prefixes s.filter_keys) + length (prefixes s.topic_keys)))
    (capped (length s.retained))
    (capped (length s.subscriptions))

abbrev pub reply_to : State → Request → Reply
reply_to s (Connect id user clean interval) =
    record { copies = resumed_copies s.moment s.sessions id clean; outcome = Reason 0 }
reply_to s (Disconnect id) = reason 0
reply_to s (Subscribe id text options) =
    record {
      copies = copies_sent s (subscription_of id text options);
      outcome = Reason options.qos;
    }
reply_to s (Unsubscribe id text) =
    reason (if list_any (has_key id (share_of text) (filter_part text)) s.subscriptions then
    0 else 17)
reply_to s (Publish m) =
    publish_reply (message_copies s.access s.sessions s.subscriptions m)
    (begins_to_wait s.limits.queued s.access s.sessions s.subscriptions m)
reply_to s (SetAcl text) = reason 0
reply_to s (Advance seconds) = reason 0
reply_to s Stat = record { copies = []; outcome = counts_now s }

-- the subscriptions without those of a client
abbrev pub without : Text → List Subscription → List Subscription
without id subscriptions = filter (λ x. not (same_text x.client id)) subscriptions

-- the subscription is of no session that has ended
abbrev pub lasts : ℕ → List Session → Subscription → Bool
lasts moment sessions s = not (is_among (filter (has_ended moment) sessions) s.client)

-- the rows that change; the trees and the index are kept apart, by `IsFiled`
abbrev pub change_state : State → Request → State
change_state s (Connect id user clean interval) = record s {
  sessions = with_row session_cmp (new_session id user interval) s.sessions;
  subscriptions = if resumes s.sessions id clean then
      s.subscriptions else without id s.subscriptions;
}
change_state s (Disconnect id) =
    if outlives s.sessions id
    then record s { sessions = map (left_by s.moment id) s.sessions }
    else record s {
      sessions = filter (λ session. not (has_id id session)) s.sessions;
      subscriptions = without id s.subscriptions;
    }
change_state s (Subscribe id text options) =
    record s { subscriptions = upsert (subscription_of id text options) s.subscriptions }
change_state s (Unsubscribe id text) =
    record s {
      subscriptions = filter (λ x. not (has_key id (share_of text) (filter_part text) x))
          s.subscriptions;
    }
change_state s (Publish m) = record s {
  sessions = map (waiting_after s.limits.queued s.access s.subscriptions s.moment m) s.sessions;
  subscriptions = all_turned (next_members s.access s.sessions s.subscriptions m) s.subscriptions;
  retained = retained_after s.moment s.retained m;
}
change_state s (SetAcl text) = record s { access = access_of s.rules text }
change_state s (Advance seconds) = record s {
  moment = s.moment + seconds;
  sessions = filter (λ session. not (has_ended (s.moment + seconds) session)) s.sessions;
  subscriptions = filter (lasts (s.moment + seconds) s.sessions) s.subscriptions;
  retained = without_expired (s.moment + seconds) s.retained;
}
change_state s Stat = s

-- the same limits, moment, access rows, sessions and retained messages, and the same subscriptions in turn
pub record SameRows (s t : State) : Type 0 where
  pub limits : s.limits ≡ t.limits
  pub rules : s.rules ≡ t.rules
  pub moment : s.moment ≡ t.moment
  pub access : s.access ≡ t.access
  pub sessions : s.sessions ≡ t.sessions
  pub subscriptions : SameInTurn s.subscriptions t.subscriptions
  pub retained : s.retained ≡ t.retained

-- the keys of the trees and the index are those of the rows
pub record IsFiled (s : State) : Type 0 where
  pub filter_keys : s.filter_keys ≡ filters_among s.subscriptions
  pub topic_keys : s.topic_keys ≡ topics_of s.retained
  pub deadlines : Indexes s.deadlines s.retained

-- the request is accepted and answered, and the router holds what comes of it
pub record Does (old : State) (request : Request) (reply : Reply) (new : State) : Type 0 where
  pub accepted : refusal (world_of old) request ≡ None
  pub reply_is : reply ≡ reply_to old request
  pub rows : SameRows new (change_state old request)
  pub filed : IsFiled old → IsFiled new

abbrev pub Applied : State → Request → Result Answer Refusal → State → Type 0
Applied old request result new =
    MatchResult result (λ a. Does old request (reply_of a) new)
    (λ r. Refuses (world_of old) request r)

-- ## Steps

abbrev pub steps_sent : State → Subscription → ℕ
steps_sent s new = if asks_for_retained s.subscriptions new then
    steps_among new.filter s.retained else 0

abbrev pub steps_to : State → Request → ℕ
steps_to s (Connect id user clean interval) = 0
steps_to s (Disconnect id) = 0
steps_to s (Subscribe id text options) = steps_sent s (subscription_of id text options)
steps_to s (Unsubscribe id text) = 0
steps_to s (Publish m) = length (met_by_name (levels m.topic) (prefixes s.filter_keys))
steps_to s (SetAcl text) = 0
steps_to s (Advance seconds) = length (filter (is_due (s.moment + seconds)) s.retained)
steps_to s Stat = 0

-- how many steps an answer adds to those before; a refusal adds none, and lack of memory may add any
abbrev pub CountsSteps : State → Request → Result Answer Refusal → ℕ → ℕ → Type 0
CountsSteps old request result before now =
    MatchResult result (λ a. now ≡ before + steps_to old request)
    (λ r. (r ≡ Memory) ⊎ (now ≡ before))

-- the refusal of a test that may refuse
abbrev pub refused_by : {X : Type 0} → Result X Refusal → Option Refusal
refused_by (Ok x) = None
refused_by (Err refusal) = Some refusal
