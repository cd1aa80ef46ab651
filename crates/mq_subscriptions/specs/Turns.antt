-- Subscriptions in turn, and the members of groups that a message serves.
use Rattle.std.specs.Prelude.{List, [], ◌∷◌, map, not, Bool, Option, Some, None, if◌then◌else◌, ◌≡◌}
use Rattle.std.specs.Prelude.{◌++◌, Vec}
use Rattle.std.specs.List.{filter, filter_map, find, list_any}
use Rattle.mq_acl.specs.AccessLists.{AccessList}
use Rattle.mq_world.specs.Lists.{Text, same_text, in_order}
use Rattle.mq_world.specs.World.{Session, Subscription, Message, Group, group_cmp, group_of}
use Rattle.mq_world.specs.World.{same_key, is_in_group}
use Rattle.mq_world.specs.Sessions.{is_reader}
use Rattle.std.specs.Rc.{rc_str_bytes}
use Rattle.std.specs.declared.alloc.Global.{Global}
use Rattle.mq_world.specs.Views.{options_of}
use Rattle.mq_subscriptions.specs.declared.subscriptions.turn.Turn.{Turn}
use Rattle.mq_world.specs.Copies.{filter_matches}

-- the element takes the place of what is the same, and goes last where nothing is
abbrev pub with_one : {X : Type 0} → (X → Bool) → X → List X → List X
with_one same x xs = map (λ y. if same y then x else y) xs
    ++ (if list_any same xs then [] else x ∷ [])

-- those that pass go last
abbrev pub put_last : {X : Type 0} → (X → Bool) → List X → List X
put_last passes xs = filter (λ x. not (passes x)) xs ++ filter passes xs

-- a subscription takes the place of the one with its key, and else goes last
abbrev pub upsert : Subscription → List Subscription → List Subscription
upsert s xs = with_one (same_key s) s xs

abbrev pub all_turned : List Subscription → List Subscription → List Subscription
all_turned [] xs = xs
all_turned (s ∷ ss) xs = all_turned ss (put_last (same_key s) xs)

-- ## Groups

-- each group that has a member, by share name, then by filter in level order
unfoldable pub groups_among : List Subscription → List Group
groups_among subscriptions = in_order group_cmp (filter_map group_of subscriptions)

-- of a group the first member whose client passes
abbrev pub next_by : (Text → Bool) → List Subscription → Group → Option Subscription
next_by passes subscriptions group =
    find (λ s. passes s.client) (filter (is_in_group group) subscriptions)

-- of a group the first member whose client is connected and may read the topic
abbrev pub next_in : Option AccessList → List Session → List Subscription → Text → Group
    → Option Subscription
next_in access sessions subscriptions topic group =
    next_by (is_reader access sessions topic) subscriptions group

unfoldable pub next_members : Option AccessList → List Session → List Subscription → Message
    → List Subscription
next_members access sessions subscriptions m =
    filter_map (next_in access sessions subscriptions m.topic)
    (filter (λ group. filter_matches group.filter m.topic) (groups_among subscriptions))

-- none, or this one
abbrev pub turns_of : Option Subscription → List Subscription
turns_of None = []
turns_of (Some s) = s ∷ []

-- ## Members that are served

abbrev pub turn_of : Turn → Subscription
turn_of t = record {
  client = rc_str_bytes t.client;
  share = Some (rc_str_bytes t.share);
  filter = t.filter.value;
  options = options_of t.options;
}

abbrev pub turns_in : Vec Turn Global → List Subscription
turns_in turns = map turn_of turns.items

abbrev pub shares_of : List Turn → List Text
shares_of turns = map (λ t. rc_str_bytes t.share) turns

-- the members of those of a share name
abbrev pub turns_listed : Text → List Turn → List Subscription
turns_listed share turns = map turn_of (filter (λ t. same_text (rc_str_bytes t.share) share) turns)

-- the member in turn of each group at a filter comes behind those of its share name
abbrev pub GathersTurns : (Text → Bool) → Text → List Subscription → List Turn → List Turn → Type 0
GathersTurns passes f rows old new =
    (share : Text) → turns_listed share new
    ≡ turns_listed share old ++ turns_of (next_by passes rows (record { share = share; filter = f }))
