-- What the router shows.
use Rattle.std.specs.Prelude.{ℕ, Bool, Option}
use Rattle.mq_world.specs.Lists.{Text}
use Rattle.mq_world.specs.World as world
use Rattle.mq_world.specs.Views.{limits_of}
use Rattle.mq_router.specs.StandsFor.{State}
use Rattle.mq_router.specs.declared.router.Router.TheInside as in_router

abbrev pub published_message : Text → Text → Text → ℕ → Bool → Option ℕ → world.Message
published_message client topic payload qos retain expiry = record {
  publisher = client;
  topic = topic;
  payload = payload;
  qos = qos;
  retain = retain;
  expiry = expiry;
}

abbrev pub state_of : in_router.Inside → State
state_of inside = record {
  limits = limits_of inside.limits;
  rules = inside.rules;
  moment = inside.clock.moment;
  access = inside.access;
  sessions = inside.sessions;
  subscriptions = inside.subscriptions.rows;
  retained = inside.retained.messages;
  filter_keys = inside.subscriptions.keys;
  topic_keys = inside.retained.keys;
  deadlines = inside.retained.pairs;
}
