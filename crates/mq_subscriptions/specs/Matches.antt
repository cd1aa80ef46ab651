-- What is found for the topic of a message: the subscriptions of clients in their own name that take part.
use Rattle.std.specs.Prelude.{List, [], ◌∷◌, map, ◌&&◌, not, is_none, Bool, ◌≡◌, ⊤, false}
use Rattle.std.specs.List.{filter, flat_map, AllByRecursion}
use Rattle.mq_world.specs.Lists.{Text, same_text, text_cmp}
use Rattle.mq_world.specs.World.{Subscription, SubscriptionOptions, Message}
use Rattle.mq_world.specs.World as world
use Rattle.mq_subscriptions.specs.Filters.{Entry}
use Rattle.std.specs.Rc.{rc_str_bytes}
use Rattle.std.specs.Ordering.{is_lt}
use denote.Ref.{Bor}
use Rattle.mq_world.specs.Views.{options_of}
use Rattle.mq_subscriptions.specs.declared.subscriptions.matches.Match.{Match}

abbrev pub rows_found : List Entry → List Subscription
rows_found found = flat_map (λ (a : Entry). a.rows) found

-- those in a client's own name that take part, whoever's they are
abbrev pub is_unshared_match : Message → Subscription → Bool
is_unshared_match m s = is_none s.share
    && not (s.options.no_local && same_text s.client m.publisher)

abbrev pub unshared_matches : Message → List Subscription → List (Text × world.SubscriptionOptions)
unshared_matches m rows = map (λ s. (s.client, s.options)) (filter (is_unshared_match m) rows)

-- subscriptions, each by its client and what it asks for
abbrev pub match_views : List Match → List (Text × SubscriptionOptions)
match_views ms = map (λ m. (rc_str_bytes m.client.now, options_of m.options)) ms

abbrev pub clients_of : List (Text × SubscriptionOptions) → List Text
clients_of xs = map (λ x. x.0) xs

-- what those of a client ask for
abbrev pub options_among : Text → List (Text × SubscriptionOptions) → List SubscriptionOptions
options_among id xs = map (λ x. x.1) (filter (λ x. same_text x.0 id) xs)

-- no text is less than one before it
abbrev pub AreAscending : List Text → Type 0
AreAscending [] = ⊤
AreAscending (t ∷ ts) = AllByRecursion (λ u. is_lt (text_cmp u t) ≡ false) ts × AreAscending ts

abbrev pub AreByClient : List (Text × SubscriptionOptions) → Type 0
AreByClient xs = AreAscending (clients_of xs)

abbrev pub lent_values : {X : Type 0} → List (Bor X) → List X
lent_values xs = map (λ x. x.now) xs
