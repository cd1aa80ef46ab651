-- What is kept at one filter, and at all of them.
use Rattle.std.specs.Prelude.{◌≡◌, Bool, true, false, List, [], ◌∷◌, map, Option, Some, None}
use Rattle.std.specs.Prelude.{string_bytes, ◌&&◌, ℕ, ◌≤◌, length}
use Rattle.std.specs.List.{filter, flat_map, list_any, AllByRecursion}
use Rattle.std.specs.Map.{lookup}
use Rattle.std.specs.Option.{option_map, option_map_or}
use Rattle.std.specs.List.Sorted.{IsStrictlySortedBy}
use Rattle.std.specs.Ordering.{nat_cmp, is_eq}
use Rattle.std.specs.Cmp.Lexicographic.{slice_cmp}
use Rattle.mq_topic.specs.Levels.{levels, level_order}
use Rattle.mq_topic.specs.Prefixes.{capped}
use Rattle.mq_topic.specs.Texts.{share_of, filter_part}
use Rattle.mq_world.specs.Lists.{Text, same_text}
use Rattle.mq_topic.specs.declared.subscription.SubFilter.{SubFilter}
use Rattle.mq_tree.specs.Entries.{AreInOrder}
use Rattle.mq_world.specs.Copies.{filter_matches}
use Rattle.mq_world.specs.World.{Subscription, same_key, same_share}
use Rattle.mq_world.specs.Counts.{filters_among}
use Rattle.mq_world.specs.Views.{options_of}
use Rattle.mq_world.specs.declared.options.SubscriptionOptions.{SubscriptionOptions}

-- a client and what its subscription asks for
abbrev pub Member : Type 0
Member = Text × SubscriptionOptions

abbrev pub has_client : Text → Member → Bool
has_client client m = same_text m.0 client

-- the subscription of a member
abbrev pub row : Option Text → Text → Member → Subscription
row share filter m = record {
  client = m.0;
  share = share;
  filter = filter;
  options =
      options_of m.1;
}

-- a filter, and the subscriptions to it
pub record Entry : Type 0 where
  pub filter : Text
  pub rows : List Subscription

abbrev pub is_empty : {X : Type 0} → List X → Bool
is_empty [] = true
is_empty (x ∷ xs) = false

-- each subscription is to the filter
abbrev pub AreHere : Entry → Type 0
AreHere a = AllByRecursion (λ s. s.filter ≡ a.filter) a.rows

-- the key of a map is the text
abbrev pub is_text : Text → Text → Bool
is_text text key = is_eq (slice_cmp nat_cmp text key)

abbrev pub unshared_rows : Text → List Member → List Subscription
unshared_rows f ms = map (row None f) ms

-- the members of each group, by share name
abbrev pub GroupList : Type 0
GroupList = List (Text × List Member)

abbrev pub group_rows : Text → GroupList → List Subscription
group_rows f groups = flat_map (λ g. map (row (Some g.0) f) g.1) groups

-- each text has something in its list
abbrev pub NoneEmpty : {X : Type 0} → List (Text × List X) → Type 0
NoneEmpty lists = AllByRecursion (λ l. is_empty l.1 ≡ false) lists

-- ## All filters

abbrev pub Entries : Type 0
Entries = List (List Text × Entry)

-- what stands at a key is to its filter, and something
pub record IsEntry (key : List Text) (a : Entry) : Type 0 where
  pub key_is : key ≡ levels a.filter
  pub here : AreHere a
  pub live : is_empty a.rows ≡ false

abbrev pub AllEntries : Entries → Type 0
AllEntries es = AllByRecursion (λ e. IsEntry e.0 e.1) es

-- so at each key, and the keys are in order
pub record AreEntries (es : Entries) : Type 0 where
  pub each : AllEntries es
  pub ordered : AreInOrder es

abbrev pub all_rows : Entries → List Subscription
all_rows es = flat_map (λ (e : List Text × Entry). e.1.rows) es

-- what the subscriptions show: themselves, and the keys of their tree
pub record SubscriptionsView : Type 0 where
  pub rows : List Subscription
  pub keys : List (List Text)

abbrev pub entries_view : Entries → SubscriptionsView
entries_view es = record { rows = all_rows es; keys = map (λ e. e.0) es }

-- the keys are the filters of the subscriptions
abbrev pub AreKeys : SubscriptionsView → Type 0
AreKeys kept = kept.keys ≡ filters_among kept.rows

-- what is found for a name: matching filters in level order, each with what is to it
pub record AreEntriesFor (topic : Text) (found : List Entry) : Type 0 where
  pub ordered : IsStrictlySortedBy level_order (map (λ a. levels a.filter) found)
  pub here : AllByRecursion AreHere found
  pub match : AllByRecursion (λ a. filter_matches a.filter topic ≡ true) found

-- no key stands twice, and the number is that of the subscriptions
pub record AreCounted (count : ℕ) (rows : List Subscription) : Type 0 where
  pub once : (s : Subscription) → length (filter (same_key s) rows) ≤ 1
  pub number : count ≡ capped (length rows)

-- ## What each client has

-- a share name or none, and a filter
abbrev pub FilterKey : Type 0
FilterKey = Option Text × Text

abbrev pub sub_filter_key : SubFilter → FilterKey
sub_filter_key sub_filter = (option_map string_bytes sub_filter.share, sub_filter.filter)

-- that of a subscription's text
abbrev pub text_key : Text → FilterKey
text_key text = (share_of text, filter_part text)

abbrev pub has_filter_key : Subscription → FilterKey → Bool
has_filter_key s key = same_share s.share key.0 && same_text s.filter key.1

-- the subscription is one of these
abbrev pub is_in_list : List FilterKey → Subscription → Bool
is_in_list list s = list_any (has_filter_key s) list

-- what each client has, by its text
abbrev pub FilterLists : Type 0
FilterLists = List (Text × List FilterKey)

-- the subscription is in the list of its client
abbrev pub is_listed : FilterLists → Subscription → Bool
is_listed lists s = option_map_or (λ list. is_in_list list s) (lookup (is_text s.client) lists)
    false

-- the tree, with a list for each client that has subscriptions: in it stand those, and no others
pub record AreListed (es : Entries) (lists : FilterLists) : Type 0 where
  pub kept : AreEntries es
  pub listed : (s : Subscription) → is_listed lists s ≡ list_any (same_key s) (all_rows es)
