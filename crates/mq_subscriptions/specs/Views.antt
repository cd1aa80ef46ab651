-- What the subscriptions' own values show.
use Rattle.std.specs.Prelude.{List, map, ◌++◌}
use Rattle.std.specs.Rc.{rc_str_bytes}
use Rattle.std.specs.List.Sorted.{IsStrictlySortedBy}
use Rattle.std.specs.Map.{keys_of}
use Rattle.mq_world.specs.Keys.{Key, key_cmp}
use Rattle.mq_world.specs.Lists.{Text}
use Rattle.mq_subscriptions.specs.Filters.{Member, Entry, GroupList, unshared_rows, group_rows}
use Rattle.mq_subscriptions.specs.Filters.{NoneEmpty, FilterLists}
use Rattle.mq_subscriptions.specs.Filters.{AreListed, AreCounted, all_rows, SubscriptionsView}
use Rattle.mq_subscriptions.specs.Filters.{entries_view}
use Rattle.mq_subscriptions.specs.declared.subscriptions.group.Group.TheInside as in_group
use Rattle.mq_subscriptions.specs.declared.subscriptions.share_groups.ShareGroups.TheInside as in_groups
use Rattle.mq_subscriptions.specs.declared.subscriptions.filter_entry.FilterEntry.TheInside as in_at
use Rattle.mq_subscriptions.specs.declared.subscriptions.client_lists.ClientLists.TheInside as in_lists
use Rattle.mq_subscriptions.specs.declared.subscriptions.Subscriptions.TheInside as in_subscriptions

-- the entries of a map from texts
abbrev pub texts : {X : Type 0} → List (Key × X) → List (Text × X)
texts es = map (λ e. (rc_str_bytes e.0, e.1)) es

abbrev pub members_of : in_group.Inside → List Member
members_of inside = texts inside.members.entries

abbrev pub groups_of : in_groups.Inside → GroupList
groups_of inside = texts inside.by_share.entries

abbrev pub NoneIsEmpty : in_groups.Inside → Type 0
NoneIsEmpty inside = NoneEmpty (groups_of inside)

abbrev pub entry_of : in_at.Inside → Entry
entry_of inside = record {
  filter = inside.filter.value;
  rows = unshared_rows inside.filter.value (texts inside.unshared.entries)
      ++ group_rows inside.filter.value inside.groups;
}

abbrev pub lists_of : in_lists.Inside → FilterLists
lists_of inside = texts inside.by_client.entries

-- each client that is there has something, and the clients are in order
pub record AreClientLists (inside : in_lists.Inside) : Type 0 where
  pub live : NoneEmpty (lists_of inside)
  pub ordered : IsStrictlySortedBy key_cmp (keys_of inside.by_client.entries)

abbrev pub subscriptions_of : in_subscriptions.Inside → SubscriptionsView
subscriptions_of inside = entries_view inside.tree

-- the lists are those of the tree, and the number is that of its subscriptions
pub record AreSubscriptions (inside : in_subscriptions.Inside) : Type 0 where
  pub listed : AreListed inside.tree inside.lists
  pub counted : AreCounted inside.count (all_rows inside.tree)
