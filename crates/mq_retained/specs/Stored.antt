-- What the tree of retained messages and the index of their deadlines show.
use Rattle.std.specs.Prelude.{◌≡◌, ℕ, ◌+◌, ◌^◌, ◌<◌, Bool, ◌&&◌, not, List, length, map}
use Rattle.std.specs.Prelude.{Option, IfSome}
use Rattle.std.specs.List.{AllByRecursion}
use Rattle.std.specs.Rc.{rc_str_bytes}
use Rattle.mq_topic.specs.Levels.{levels}
use Rattle.mq_tree.specs.Entries.{Entries, AreInOrder}
use Rattle.mq_topic.specs.Prefixes.{capped}
use Rattle.mq_acl.specs.AccessLists.{AccessList, allowed}
use Rattle.mq_acl.specs.declared.access.Direction.TheVariants.{Reading}
use Rattle.mq_world.specs.Lists.{Text, same_text, in_order}
use Rattle.mq_world.specs.World.{Subscription, Retained, Message}
use Rattle.mq_world.specs.Counts.{topics_of}
use Rattle.mq_retained.specs.Deadlines.{Pair, Indexes, pair_cmp}
use Rattle.mq_retained.specs.declared.retained.stored.Stored.{Stored}

abbrev pub message_in : Stored → Retained
message_in s = record {
  topic = s.topic.value;
  payload = rc_str_bytes s.payload;
  qos = s.qos;
  publisher = rc_str_bytes s.publisher;
  deadline = s.deadline;
}

-- the messages in a tree, by topic in level order
abbrev pub retained_in : Entries Stored → List Retained
retained_in tree = map (λ entry. message_in entry.1) tree

-- each message stands at its topic
abbrev pub IsPlaced : Entries Stored → Type 0
IsPlaced tree = AllByRecursion (λ entry. entry.0 ≡ levels entry.1.topic.value) tree

-- each message stands at its topic, and the pairs are those of the messages with a deadline
pub record IsSound (tree : Entries Stored) (pairs : List Pair) : Type 0 where
  pub ordered : AreInOrder tree
  pub placed : IsPlaced tree
  pub indexed : Indexes pairs (retained_in tree)

-- the keys stand in order, and the number is theirs
pub record AreCounted (count : ℕ) (tree : Entries Stored) : Type 0 where
  pub ordered : AreInOrder tree
  pub number : count ≡ capped (length tree)

-- each deadline can be reached from the moment by an expiry interval
abbrev pub AreNear : ℕ → List Retained → Type 0
AreNear moment retained =
    AllByRecursion (λ kept. IfSome kept.deadline (λ deadline. deadline < moment + 2 ^ 32)) retained

-- what the retained messages show: themselves, the keys of their tree, and the pairs of the index in order
pub record RetainedView : Type 0 where
  pub messages : List Retained
  pub keys : List (List Text)
  pub pairs : List Pair

abbrev pub retained_view : Entries Stored → List Pair → RetainedView
retained_view tree pairs = record {
  messages = retained_in tree;
  keys = map (λ entry. entry.0) tree;
  pairs = in_order pair_cmp pairs;
}

-- the keys and the pairs are those of the messages
pub record AreFiled (kept : RetainedView) : Type 0 where
  pub keys : kept.keys ≡ topics_of kept.messages
  pub pairs : Indexes kept.pairs kept.messages

-- what is stored of a message, with this deadline or none
abbrev pub stored_until : Option ℕ → Message → Retained
stored_until deadline m = record {
  topic = m.topic;
  payload = m.payload;
  qos = m.qos;
  publisher = m.publisher;
  deadline = deadline;
}

-- of messages that match, those that the client is sent
abbrev pub may_get : Option AccessList → Option Text → Subscription → Retained → Bool
may_get access user s kept =
    allowed access s.client user kept.topic Reading
    && not (s.options.no_local && same_text kept.publisher s.client)
