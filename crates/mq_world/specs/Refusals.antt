-- Which commands are refused, and why: the first of the conditions that holds.
use Rattle.std.specs.Prelude.{ℕ, ◌+◌, Bool, true, false, List, [], ◌∷◌, ◌++◌, ◌&&◌, not, nat_le}
use Rattle.std.specs.Prelude.{nat_lt, length, Option, Some, None, Result, Ok, Err}
use Rattle.std.specs.Option.{option_map, option_and_then}
use Rattle.std.specs.List.{find}
use Rattle.mq_topic.specs.Texts.{contains_byte, is_name, is_shared, is_subscription}
use Rattle.mq_acl.specs.Rows.{AclRow, rows_by}
use Rattle.mq_acl.specs.declared.rules.Rules.{Rules}
use Rattle.mq_acl.specs.declared.access.Direction.TheVariants.{Writing}
use Rattle.mq_acl.specs.declared.fault.AclFault.{AclFault}
use Rattle.mq_world.specs.Lists.{Text}
use Rattle.mq_world.specs.World.{World, Session, Message, Request, Connect, Disconnect, Subscribe}
use Rattle.mq_world.specs.World.{Unsubscribe, Publish, SetAcl, Advance, Stat, are_valid}
use Rattle.mq_world.specs.Clock.{last_moment}
use Rattle.mq_world.specs.Sessions.{is_connected, may}
use Rattle.mq_world.specs.Retained.{is_full}
use Rattle.mq_world.specs.declared.refusal.Refusal.{Refusal}
use Rattle.mq_world.specs.declared.refusal.Refusal.TheVariants.{ClientId, UserName, NotConnected}
use Rattle.mq_world.specs.declared.refusal.Refusal.TheVariants.{TopicName, TopicFilter}
use Rattle.mq_world.specs.declared.refusal.Refusal.TheVariants.{SharedNoLocal, NotAuthorized}
use Rattle.mq_world.specs.declared.refusal.Refusal.TheVariants.{RetainedFull, AclLine, ClockTooFar}

-- a list of conditions, each with the refusal that it leads to
abbrev pub Conditions : Type 0
Conditions = List (Bool × Refusal)

-- the refusal of the first condition that holds
abbrev pub first_refusal : Conditions → Option Refusal
first_refusal conditions = option_map (λ condition. condition.1)
    (find (λ condition. condition.0) conditions)

-- 1 to 65,535 bytes without U+0000 (MQTT 5.0, sections 1.5.4 and 3.1.3.1; that one of zero length is refused is our own)
abbrev pub is_client_id : Text → Bool
is_client_id id = nat_le 1 (length id) && nat_le (length id) 65535 && not (contains_byte 0 id)

-- none, or at most 65,535 bytes without U+0000 (MQTT 5.0, sections 1.5.4 and 3.1.3.5)
abbrev pub is_user_name : Option Text → Bool
is_user_name None = true
is_user_name (Some user) = nat_le (length user) 65535 && not (contains_byte 0 user)

-- the conditions on the client of a command other than connect
abbrev pub client_conditions : List Session → Text → Conditions
client_conditions sessions id = (not (is_client_id id), ClientId)
    ∷ (not (is_connected sessions id), NotConnected) ∷ []

-- the conditions on a published message
abbrev pub message_conditions : World → Message → Conditions
message_conditions w m =
    (not (is_name m.topic), TopicName) ∷ (not (may w m.publisher m.topic Writing), NotAuthorized)
    ∷ (is_full w.limits.retained w.retained m, RetainedFull) ∷ []

abbrev pub fault_line : Result (List AclRow) AclFault → Option ℕ
fault_line (Ok rows) = None
fault_line (Err fault) = Some fault.line

-- the number of the faulty line of an access list's text, if it has one
abbrev pub faulty_line : Rules → Option Text → Option ℕ
faulty_line rules text = option_and_then (λ t. fault_line (rows_by rules t)) text

-- the refusal of an access list's text, if it has a fault
abbrev pub acl_refusal : Rules → Option Text → Option Refusal
acl_refusal rules text = option_map (λ line. AclLine line) (faulty_line rules text)

-- a shared subscription has no No Local (MQTT 5.0, section 3.8.3.1)
unfoldable pub refusal : World → Request → Option Refusal
refusal w (Connect id user clean interval) =
    first_refusal ((not (is_client_id id), ClientId) ∷ (not (is_user_name user), UserName) ∷ [])
refusal w (Disconnect id) = first_refusal (client_conditions w.sessions id)
refusal w (Subscribe id text options) =
    first_refusal (client_conditions w.sessions id
    ++ (not (is_subscription text), TopicFilter)
    ∷ (is_shared text && options.no_local, SharedNoLocal) ∷ [])
refusal w (Unsubscribe id text) =
    first_refusal (client_conditions w.sessions id ++ (not (is_subscription text), TopicFilter)
    ∷ [])
refusal w (Publish m) =
    first_refusal (client_conditions w.sessions m.publisher ++ message_conditions w m)
refusal w (SetAcl text) = acl_refusal w.rules text
refusal w (Advance seconds) =
    first_refusal ((nat_lt last_moment (w.moment + seconds), ClockTooFar) ∷ [])
refusal w Stat = None

-- ## Which commands are valid, and which never want memory

abbrev pub is_valid : Request → Bool
is_valid (Connect id user clean interval) = true
is_valid (Disconnect id) = true
is_valid (Subscribe id text options) = are_valid options
is_valid (Unsubscribe id text) = true
is_valid (Publish m) = nat_le m.qos 2
is_valid (SetAcl text) = true
is_valid (Advance seconds) = true
is_valid Stat = true

-- a command that takes no memory
abbrev pub takes_no_memory : Request → Bool
takes_no_memory (Disconnect id) = true
takes_no_memory (Unsubscribe id text) = true
takes_no_memory (Advance seconds) = true
takes_no_memory Stat = true
takes_no_memory request = false
