-- What a client's own subscriptions show.
use Rattle.std.specs.Prelude.{◌≡◌, true, List, map}
use Rattle.std.specs.List.{AllByRecursion}
use Rattle.std.specs.Rc.{rc_str_bytes}
use Rattle.mq_topic.specs.Texts.{is_subscription}
use Rattle.mq_world.specs.Keys.{Key}
use Rattle.mq_subscriptions.specs.Filters.{FilterKey, text_key}
use Rattle.mq_subscriptions.specs.declared.subscriptions.client_filters.ClientFilters.TheInside as in_filters

abbrev pub key_in : Key → FilterKey
key_in text = text_key (rc_str_bytes text)

abbrev pub filters_view : in_filters.Inside → List FilterKey
filters_view inside = map key_in inside.texts.keys

-- each text is a subscription's
abbrev pub IsAsked : Key → Type 0
IsAsked text = is_subscription (rc_str_bytes text) ≡ true

abbrev pub AreAsked : in_filters.Inside → Type 0
AreAsked inside = AllByRecursion IsAsked inside.texts.keys
