-- Words of the contracts: what a client asks for, and what stands in its list.
use Rattle.std.specs.Prelude.{◌≡◌, Bool, true, ◌&&◌, ◌||◌, not, string_bytes}
use Rattle.std.specs.Option.{option_map}
use Rattle.mq_topic.specs.Texts.{is_subscription, share_of, filter_part}
use Rattle.mq_topic.specs.declared.subscription.SubFilter.{SubFilter}
use Rattle.mq_world.specs.Lists.{Text, same_text}
use Rattle.mq_world.specs.World.{Subscription, has_key}
use Rattle.mq_subscriptions.specs.Filters.{FilterKey, FilterLists, row, is_listed}
use Rattle.mq_world.specs.declared.options.SubscriptionOptions.{SubscriptionOptions}

-- the text is a valid subscription's, and this is its share name and its filter
abbrev pub IsAskedBy : Text → SubFilter → Type 0
IsAskedBy text sub_filter =
    (option_map string_bytes sub_filter.share ≡ share_of text)
    × (sub_filter.filter ≡ filter_part text) × (is_subscription text ≡ true)

abbrev pub sub_filter_row : Text → SubFilter → SubscriptionOptions → Subscription
sub_filter_row client sub_filter options =
    row (option_map string_bytes sub_filter.share) sub_filter.filter (client, options)

-- the subscription is the client's, with this share name and filter
abbrev pub has_sub_filter : Text → SubFilter → Subscription → Bool
has_sub_filter client sub_filter s =
    has_key client (option_map string_bytes sub_filter.share) sub_filter.filter s

-- the subscription is the client's, with this text
abbrev pub has_asked : Text → Text → Subscription → Bool
has_asked client text s = has_key client (share_of text) (filter_part text) s

-- the lists have the key too, or no longer
abbrev pub ListsMore : Text → FilterKey → FilterLists → FilterLists → Type 0
ListsMore client key old new =
    (s : Subscription) → is_listed new s ≡ (has_key client key.0 key.1 s || is_listed old s)

abbrev pub ListsLess : Text → FilterKey → FilterLists → FilterLists → Type 0
ListsLess client key old new =
    (s : Subscription) → is_listed new s ≡ (not (has_key client key.0 key.1 s) && is_listed old s)

-- they have what other clients had
abbrev pub ListsOthers : Text → FilterLists → FilterLists → Type 0
ListsOthers client old new =
    (s : Subscription) → is_listed new s ≡ (not (same_text s.client client) && is_listed old s)
