-- What the options of a client's subscriptions come to for its copy.
use Rattle.std.specs.Prelude.{ℕ, Bool, List, [], ◌∷◌, ◌++◌, map, max, min, ◌&&◌, ◌||◌, Option, Some}
use Rattle.std.specs.Prelude.{None}
use Rattle.std.specs.List.{filter_map, list_any}
use Rattle.mq_world.specs.Lists.{Text, greatest, ascending}
use Rattle.mq_world.specs.World.{SubscriptionOptions, Group, Message, Copy}
use Rattle.mq_router.specs.declared.delivery.summary.Summary.TheInside as in_summary

-- the greatest QoS, whether some ask for Retain As Published, and the identifiers
pub record Summary : Type 0 where
  pub qos : ℕ
  pub retain_as_published : Bool
  pub identifiers : List ℕ

abbrev pub summary_of : List SubscriptionOptions → Summary
summary_of options = record {
  qos = greatest (map (λ o. o.qos) options);
  retain_as_published = list_any (λ o. o.retain_as_published) options;
  identifiers = filter_map (λ o. o.identifier) options;
}

-- none where there are no options
abbrev pub summary_for : List SubscriptionOptions → Option Summary
summary_for [] = None
summary_for (o ∷ options) = Some (summary_of (o ∷ options))

-- that of the options of both
abbrev pub together : Summary → Summary → Summary
together a b = record {
  qos = max a.qos b.qos;
  retain_as_published = a.retain_as_published || b.retain_as_published;
  identifiers = a.identifiers ++ b.identifiers;
}

-- the copy for a client, or for it in a group, by subscriptions with options of this summary
abbrev pub copy_from : Text → Option Group → Message → Summary → Copy
copy_from client group m summary = record {
  client = client;
  topic = m.topic;
  payload = m.payload;
  qos = min m.qos summary.qos;
  retain = m.retain && summary.retain_as_published;
  expiry = m.expiry;
  identifiers = ascending summary.identifiers;
  group = group;
}

abbrev pub summary_in : in_summary.Inside → Summary
summary_in inside = record {
  qos = inside.qos;
  retain_as_published = inside.rap;
  identifiers =
      inside.ids.items;
}
