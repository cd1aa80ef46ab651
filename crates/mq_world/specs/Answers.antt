-- What an accepted command is answered (reason codes: MQTT 5.0, section 2.4).
use Rattle.std.specs.Prelude.{ℕ, Bool, List, [], ◌++◌, length, ◌==◌, ◌&&◌, not, if◌then◌else◌}
use Rattle.std.specs.List.{list_any}
use Rattle.mq_topic.specs.Texts.{share_of, filter_part}
use Rattle.mq_world.specs.World.{World, Message, Request, Connect, Disconnect, Subscribe}
use Rattle.mq_world.specs.World.{Unsubscribe, Publish, SetAcl, Advance, Stat, Copy, Reply}
use Rattle.mq_world.specs.World.{subscription_of}
use Rattle.mq_world.specs.World.{has_key, subscriptions_of}
use Rattle.mq_world.specs.Sessions.{connected}
use Rattle.mq_world.specs.Copies.{unshared_copies}
use Rattle.mq_world.specs.Waiting.{resumed_copies, begins_to_wait}
use Rattle.mq_world.specs.Groups.{group_copies}
use Rattle.mq_world.specs.Retained.{sent_to}
use Rattle.mq_world.specs.Counts.{counts}
use Rattle.mq_world.specs.declared.answer.Outcome.TheVariants.{Reason}

-- where no copies are named there are none
abbrev pub reason : ℕ → Reply
reason n = record { copies = []; outcome = Reason n }

-- the copies that a publish sends: those for clients that are connected, then those for groups
abbrev pub copies_of : World → Message → List Copy
copies_of w m = unshared_copies w.access (connected w.sessions) (subscriptions_of w) m
    ++ group_copies w m

-- a publish has reason 16, no matching subscribers, where no copy is sent and none begins to wait
abbrev pub publish_reply : List Copy → Bool → Reply
publish_reply copies waits = record {
  copies = copies;
  outcome =
      Reason (if length copies == 0 && not waits then 16 else 0);
}

-- a connect that resumes a session is sent what waited; a subscribe is granted the QoS that it asks for; an unsubscribe has
-- reason 17 where no such subscription existed
unfoldable pub answer : World → Request → Reply
answer w (Connect id user clean interval) =
    record { copies = resumed_copies w.moment w.sessions id clean; outcome = Reason 0 }
answer w (Disconnect id) = reason 0
answer w (Subscribe id text options) =
    record { copies = sent_to w (subscription_of id text options); outcome = Reason options.qos }
answer w (Unsubscribe id text) =
    reason (if list_any (has_key id (share_of text) (filter_part text)) (subscriptions_of w) then
    0 else 17)
answer w (Publish m) =
    publish_reply (copies_of w m)
    (begins_to_wait w.limits.queued w.access w.sessions (subscriptions_of w) m)
answer w (SetAcl text) = reason 0
answer w (Advance seconds) = reason 0
answer w Stat = record { copies = []; outcome = counts w }
