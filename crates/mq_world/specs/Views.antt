-- What commands, answers, messages and subscription options say, as texts and numbers.
use Rattle.std.specs.Prelude.{map, string_bytes, List, Vec}
use Rattle.std.specs.Option.{option_map}
use Rattle.std.specs.Rc.{rc_str_bytes}
use Rattle.std.specs.declared.alloc.Global.{Global}
use Rattle.std.specs.declared.rc.Rc.{Rc}
use Rattle.mq_world.specs.Keys.{Key}
use Rattle.mq_world.specs.Lists.{Text}
use Rattle.mq_world.specs.World.{Request, Group, Copy, Reply}
use Rattle.mq_world.specs.World as world
use Rattle.mq_world.specs.declared.command.Command.{Command}
use Rattle.mq_world.specs.declared.command.Command.TheVariants.{Connect, Disconnect, Subscribe}
use Rattle.mq_world.specs.declared.command.Command.TheVariants.{Unsubscribe, Publish, SetAcl}
use Rattle.mq_world.specs.declared.command.Command.TheVariants.{Advance, Stat}
use Rattle.mq_world.specs.declared.limits.Limits.{Limits}
use Rattle.mq_world.specs.declared.answer.Delivery.{Delivery}
use Rattle.mq_world.specs.declared.answer.Answer.{Answer}
use Rattle.mq_world.specs.declared.options.SubscriptionOptions.{SubscriptionOptions}
use Rattle.mq_world.specs.declared.message.Message.{Message}

abbrev pub limits_of : Limits → world.Limits
limits_of limits = record { retained = limits.retained; queued = limits.queued }

abbrev pub request_of : Command → Request
request_of (Connect client user clean session_expiry) =
    world.Connect (string_bytes client) (option_map string_bytes user) clean session_expiry
request_of (Disconnect client) = world.Disconnect (string_bytes client)
request_of (Subscribe client filter qos no_local rap handling id) =
    world.Subscribe (string_bytes client) (string_bytes filter) (record {
      qos = qos;
      no_local = no_local;
      retain_as_published = rap;
      handling = handling;
      identifier = id;
    })
request_of (Unsubscribe client filter) =
    world.Unsubscribe (string_bytes client) (string_bytes filter)
request_of (Publish client topic payload qos retain expiry) =
    world.Publish (record {
      publisher = string_bytes client;
      topic = string_bytes topic;
      payload = string_bytes payload;
      qos = qos;
      retain = retain;
      expiry = expiry;
    })
request_of (SetAcl text) = world.SetAcl (option_map string_bytes text)
request_of (Advance seconds) = world.Advance seconds
request_of Stat = world.Stat

abbrev pub group_of : Key × Rc Text Global → Group
group_of names = record { share = rc_str_bytes names.0; filter = names.1.value }

abbrev pub copy_of : Delivery → Copy
copy_of d = record {
  client = rc_str_bytes d.client;
  topic = d.topic.value;
  payload = rc_str_bytes d.payload;
  qos = d.qos;
  retain = d.retain;
  expiry = d.expiry;
  identifiers = d.ids.items;
  group = option_map group_of d.group;
}

abbrev pub reply_of : Answer → Reply
reply_of a = record { copies = map copy_of a.copies.items; outcome = a.outcome }

-- what a subscription asks for, as the definitions have it
abbrev pub options_of : SubscriptionOptions → world.SubscriptionOptions
options_of o = record {
  qos = o.qos;
  no_local = o.no_local;
  retain_as_published = o.rap;
  handling = o.handling;
  identifier = o.id;
}

abbrev pub copies_in : Vec Delivery Global → List Copy
copies_in copies = map copy_of copies.items

abbrev pub message_of : Message → world.Message
message_of m = record {
  publisher = rc_str_bytes m.publisher.now;
  topic = m.topic.now;
  payload = m.payload.now;
  qos = m.qos;
  retain = m.retain;
  expiry = m.expiry;
}
