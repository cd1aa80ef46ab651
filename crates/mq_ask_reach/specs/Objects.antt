-- The answers as JSON: what a subscription can be sent, and an object for each subscription that is unreached.
use Rattle.std.specs.Io.KnownBytes.{Appends}
use Rattle.std.specs.List.{flat_map}
use Rattle.std.specs.Prelude.{◌≡◌, ◌++◌, ℕ, List, Ok, Option, codes, length, slice_get}
use Rattle.mq_acl.specs.Rows.{AclRow, rows_by}
use Rattle.mq_acl.specs.declared.rules.Rules.{Rules}
use Rattle.mq_ask_reach.specs.Reach.{IsReach}
use Rattle.mq_jsonl.specs.Lines.{all_lines}
use Rattle.mq_print.specs.Objects.{number_data, object_text, text_data, whole_data}
use Rattle.mq_reach.specs.Reach.{list_by}
use Rattle.mq_reach.specs.Subscriptions.{Subscription, faulty_lines, subscriptions}
use Rattle.mq_reach.specs.Unreached.{AreUnreached}
use Rattle.serde_json.specs.Data.{Members, no_members, put, string}

-- ## Of one subscription
-- a topic that it can be sent, or that there is none
abbrev pub topic_members : (subscription : List ℕ) → (topic : Option (List ℕ)) → Members
topic_members subscription topic =
    put (codes "topic") (text_data topic) (
    put (codes "filter") (string subscription) no_members)

abbrev pub topic_object : (subscription : List ℕ) → (topic : Option (List ℕ)) → List ℕ
topic_object subscription topic = object_text (topic_members subscription topic)

-- what is written is that of what a subscription of this client can be sent under the list with this text
pub record IsTopicWritten (rules : Rules) (text client : List ℕ) (user : Option (List ℕ))
    (subscription : List ℕ) (before after : Option (List ℕ)) : Type 0 where
  pub topic : Option (List ℕ)
  pub is : IsReach rules text client user subscription topic
  pub written : Appends before after (topic_object subscription topic)

-- ## Of a script
-- a subscription of the script with this name
abbrev pub subscription_members : (script : List ℕ) → Subscription → Members
subscription_members script s =
    put (codes "user") (text_data s.user) (
    put (codes "line") (whole_data s.line) (
    put (codes "filter") (string s.filter) (
    put (codes "file") (string script) (
    put (codes "client") (string s.client) no_members))))

abbrev pub subscription_object : (script : List ℕ) → Subscription → List ℕ
subscription_object script s = object_text (subscription_members script s)

-- how many subscriptions a script with these lines has, how many of them are unreached, and how many lines are no commands
abbrev pub count_members : (lines : List (List ℕ)) → (unreached : List Subscription) → Members
count_members lines unreached =
    put (codes "subscriptions") (whole_data (length (subscriptions lines))) (
    put (codes "receive_nothing") (whole_data (length unreached)) (
    put (codes "invalid_lines") (whole_data (length (faulty_lines lines))) (
    put (codes "first_invalid_line") (number_data (slice_get (faulty_lines lines) 0)) no_members)))

-- an object for each of them, and behind them the counts
abbrev pub unreached_text : (script : List ℕ) → (lines : List (List ℕ))
    → (unreached : List Subscription) → List ℕ
unreached_text script lines unreached = flat_map (subscription_object script) unreached
    ++ object_text (count_members lines unreached)

-- what is written is that of exactly the unreached subscriptions of this script under the list with this text
pub record AreUnreachedWritten (rules : Rules) (text name script : List ℕ)
    (before after : Option (List ℕ)) : Type 0 where
  pub rows : List AclRow
  pub read : rows_by rules text ≡ Ok rows
  pub unreached : List Subscription
  pub are : AreUnreached (list_by rules rows) (subscriptions (all_lines script)) unreached
  pub written : Appends before after (unreached_text name (all_lines script) unreached)
