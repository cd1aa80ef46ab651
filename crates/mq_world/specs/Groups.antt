-- Which member of each group a publish serves (MQTT 5.0, section 4.8.2; that members take turns is our own).
use Rattle.std.specs.Prelude.{ℕ, Bool, List, [], ◌∷◌, nat_le, map, Option, if◌then◌else◌}
use Rattle.std.specs.List.{filter, filter_map, find, list_all, list_any}
use Rattle.mq_world.specs.Lists.{Text, in_order}
use Rattle.mq_world.specs.World.{World, Row, Group, Message, Copy, group_cmp, group_of, rows_in}
use Rattle.mq_world.specs.World.{same_key}
use Rattle.mq_world.specs.Sessions.{can_be_served}
use Rattle.mq_world.specs.Copies.{filter_matches, copy_by}

-- the groups, by share name and then by filter
unfoldable pub groups_of : List Row → List Group
groups_of rows = in_order group_cmp (filter_map (λ row. group_of row.subscription) rows)

-- the row with the least stamp
abbrev pub least_stamped : List Row → Option Row
least_stamped rows = find (λ row. list_all (λ other. nat_le row.stamp other.stamp) rows) rows

-- the member that joined or was served longest ago, among those that can be served
abbrev pub turn_of : (Text → Bool) → List Row → Group → Option Row
turn_of can rows group =
    least_stamped (filter (λ row. can row.subscription.client) (rows_in group rows))

-- the members that are served: one of each group whose filter matches the topic, if any can be
unfoldable pub served_rows : (Text → Bool) → List Row → Text → List Row
served_rows can rows topic =
    filter_map (turn_of can rows)
    (filter (λ group. filter_matches group.filter topic) (groups_of rows))

-- the members that a publish serves
abbrev pub served_by : World → Message → List Row
served_by w m = served_rows (can_be_served w m.topic) w.rows m.topic

-- the copy for a member by its own subscription
abbrev pub group_copy : Message → Row → Copy
group_copy m row = copy_by row.subscription.client (group_of row.subscription) m
    (row.subscription.options ∷ [])

abbrev pub group_copies : World → Message → List Copy
group_copies w m = map (group_copy m) (served_by w m)

-- a member that was served stands last in its group
abbrev pub restamp : ℕ → List Row → Row → Row
restamp stamp served_rows row =
    if list_any (λ other. same_key other.subscription row.subscription) served_rows then
    record row { stamp = stamp } else row
