-- What a broker knows, as plain lists: a clock, an access list, sessions, subscriptions and retained messages (MQTT 5.0,
-- sections 3.1, 3.3, 3.8, 3.10, 3.14 and 4.8), and what it is asked and answers.
use Rattle.std.specs.Prelude.{ℕ, ◌<◌, Bool, true, List, [], ◌&&◌, nat_le, nat_eq, map, Option, Some}
use Rattle.std.specs.Prelude.{None}
use Rattle.std.specs.declared.cmp.Ordering.{Ordering}
use Rattle.std.specs.Ordering.{on, then_cmp}
use Rattle.std.specs.Option.{option_map, option_map_or, option_eq, option_cmp}
use Rattle.std.specs.List.{AllByRecursion, IsDistinct, filter}
use Rattle.std.specs.List.Sorted.{IsStrictlySortedBy}
use Rattle.mq_topic.specs.Levels.{levels, level_order}
use Rattle.mq_topic.specs.Texts.{share_of, filter_part}
use Rattle.mq_acl.specs.AccessLists.{AccessList}
use Rattle.mq_acl.specs.declared.rules.Rules.{Rules}
use Rattle.mq_acl.specs.declared.rules.Rules.TheVariants.{Own}
use Rattle.mq_world.specs.Lists.{Text, same_text, text_cmp}
use Rattle.mq_world.specs.declared.answer.Outcome.{Outcome}

-- ## Subscriptions

-- what a subscription asks for beside its filter (MQTT 5.0, sections 3.8.2.1.2 and 3.8.3.1)
pub record SubscriptionOptions : Type 0 where
  pub qos : ℕ
  pub no_local : Bool
  pub retain_as_published : Bool
  pub handling : ℕ
  pub identifier : Option ℕ

-- a client's subscription to a filter, for itself or under a share name (section 4.8.2)
pub record Subscription : Type 0 where
  pub client : Text
  pub share : Option Text
  pub filter : Text
  pub options : SubscriptionOptions

-- a subscription and the number of accepted commands before the one by which it joined or was last served
pub record Row : Type 0 where
  pub subscription : Subscription
  pub stamp : ℕ

-- the clients that share a filter under a name
pub record Group : Type 0 where
  pub share : Text
  pub filter : Text

-- ## Messages

-- a message as it is published; its expiry interval is in seconds (section 3.3.2.3.3)
pub record Message : Type 0 where
  pub publisher : Text
  pub topic : Text
  pub payload : Text
  pub qos : ℕ
  pub retain : Bool
  pub expiry : Option ℕ

-- a message that is kept for later subscriptions (section 3.3.1.3)
pub record Retained : Type 0 where
  pub topic : Text
  pub payload : Text
  pub qos : ℕ
  pub publisher : Text
  pub deadline : Option ℕ

-- a copy of a message for a client, for itself or for a group
pub record Copy : Type 0 where
  pub client : Text
  pub topic : Text
  pub payload : Text
  pub qos : ℕ
  pub retain : Bool
  pub expiry : Option ℕ
  pub identifiers : List ℕ
  pub group : Option Group

-- ## The world

-- a client is connected, or away until its session ends, at a moment or never
pub data Presence : Type 0 where
  Connected : Presence
  Away : (end : Option ℕ) → Presence

-- a copy that waits for its client (section 4.1)
pub record Waiting : Type 0 where
  pub copy : Copy
  pub deadline : Option ℕ

-- a client's session: its user name or none, its Session Expiry Interval in seconds (section 3.1.2.11.2), and the copies
-- that wait, the first one first
pub record Session : Type 0 where
  pub id : Text
  pub user : Option Text
  pub interval : ℕ
  pub presence : Presence
  pub waiting : List Waiting

-- how many messages may be retained, if there is a limit, and how many copies may wait for a client (own)
pub record Limits : Type 0 where
  pub retained : Option ℕ
  pub queued : ℕ

abbrev pub default_limits : Limits
default_limits = record { retained = None; queued = 1000 }

-- the limits; the rules by which the access lists of commands are read; the moment; the access list, or none where none
-- is set; how many commands were accepted
pub record World : Type 0 where
  pub limits : Limits
  pub rules : Rules
  pub moment : ℕ
  pub access : Option AccessList
  pub sessions : List Session
  pub rows : List Row
  pub retained : List Retained
  pub accepted : ℕ

-- nobody has a session, with this access list or without one, and commands bring lists of our own rules
unfoldable pub fresh_world : Option AccessList → World
fresh_world access =
    record {
      limits = default_limits;
      rules = Own;
      moment = 0;
      access = access;
      sessions = [];
      rows = [];
      retained = [];
      accepted = 0;
    }

-- the world with other limits
abbrev pub within : Limits → World → World
within limits w = record w { limits = limits }

-- the world in which commands bring lists of these rules
abbrev pub ruled : Rules → World → World
ruled rules w = record w { rules = rules }

abbrev pub empty_world : World
empty_world = fresh_world None

-- ## What is asked and answered

-- what a command asks
pub data Request : Type 0 where
  Connect : (client : Text) (user : Option Text) (clean : Bool) (interval : ℕ) → Request
  Disconnect : (client : Text) → Request
  Subscribe : (client filter : Text) (options : SubscriptionOptions) → Request
  Unsubscribe : (client filter : Text) → Request
  Publish : (message : Message) → Request
  SetAcl : (text : Option Text) → Request
  Advance : (seconds : ℕ) → Request
  Stat : Request

pub record Reply : Type 0 where
  pub copies : List Copy
  pub outcome : Outcome

-- a QoS of at most 2 (MQTT 5.0, section 4.3), Retain Handling too (section 3.8.3.1), an identifier from 1 to 268,435,455
-- (section 3.8.2.1.2)
abbrev pub is_identifier : ℕ → Bool
is_identifier n = nat_le 1 n && nat_le n 268435455

abbrev pub are_valid : SubscriptionOptions → Bool
are_valid options =
    nat_le options.qos 2 && nat_le options.handling 2
    && option_map_or is_identifier options.identifier true

-- the subscription that a subscribe asks for
abbrev pub subscription_of : Text → Text → SubscriptionOptions → Subscription
subscription_of client text options =
    record { client = client; share = share_of text; filter = filter_part text; options = options }

-- ## Keys and their order

abbrev pub session_cmp : Session → Session → Ordering
session_cmp = on (λ session. session.id) text_cmp

-- no share name comes first
abbrev pub share_cmp : Option Text → Option Text → Ordering
share_cmp = option_cmp text_cmp

abbrev pub filter_cmp : Text → Text → Ordering
filter_cmp = on levels level_order

-- by client, then by share name, then by filter in level order
abbrev pub subscription_cmp : Subscription → Subscription → Ordering
subscription_cmp =
    then_cmp (on (λ s. s.client) text_cmp)
    (then_cmp (on (λ s. s.share) share_cmp) (on (λ s. s.filter) filter_cmp))

abbrev pub row_cmp : Row → Row → Ordering
row_cmp = on (λ row. row.subscription) subscription_cmp

-- by topic in level order
abbrev pub retained_cmp : Retained → Retained → Ordering
retained_cmp = on (λ kept. kept.topic) filter_cmp

-- by share name, then by filter in level order
abbrev pub group_cmp : Group → Group → Ordering
group_cmp = then_cmp (on (λ group. group.share) text_cmp) (on (λ group. group.filter) filter_cmp)

abbrev pub has_id : Text → Session → Bool
has_id id session = same_text session.id id

abbrev pub same_share : Option Text → Option Text → Bool
same_share = option_eq same_text

-- the subscription of this client, under this share name or none, to this filter
abbrev pub has_key : Text → Option Text → Text → Subscription → Bool
has_key client share filter s = same_text s.client client && same_share s.share share
    && same_text s.filter filter

abbrev pub same_key : Subscription → Subscription → Bool
same_key a b = has_key a.client a.share a.filter b

abbrev pub subscriptions_of : World → List Subscription
subscriptions_of w = map (λ row. row.subscription) w.rows

-- the group of a shared subscription
abbrev pub group_of : Subscription → Option Group
group_of s = option_map (λ share. record { share = share; filter = s.filter }) s.share

abbrev pub is_in_group : Group → Subscription → Bool
is_in_group group s = same_share s.share (Some group.share) && same_text s.filter group.filter

-- the members of a group
abbrev pub rows_in : Group → List Row → List Row
rows_in group rows = filter (λ row. is_in_group group row.subscription) rows

-- each list has one row for a key, in the order of the keys; each stamp was given out; and no two members of a group have
-- the same stamp
pub record IsWorld (w : World) : Type 0 where
  pub sessions : IsStrictlySortedBy session_cmp w.sessions
  pub rows : IsStrictlySortedBy row_cmp w.rows
  pub retained : IsStrictlySortedBy retained_cmp w.retained
  pub stamps : AllByRecursion (λ row. row.stamp < w.accepted) w.rows
  pub apart : (group : Group) → IsDistinct nat_eq (map (λ row. row.stamp) (rows_in group w.rows))
