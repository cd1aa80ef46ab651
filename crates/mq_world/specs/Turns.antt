-- Whose turn it is in each group: the order of the stamps.
use Rattle.std.specs.Prelude.{◌≡◌, List, [], ◌∷◌, map, nat_le, if◌then◌else◌}
use Rattle.std.specs.List.{filter}
use Rattle.mq_world.specs.Lists.{SameElements}
use Rattle.mq_world.specs.World.{World, Group, Subscription, Row, is_in_group}

-- the row among rows in the order of their stamps
abbrev pub put_in_turn : Row → List Row → List Row
put_in_turn row [] = row ∷ []
put_in_turn row (other ∷ rows) = if nat_le row.stamp other.stamp then
    row ∷ other ∷ rows else other ∷ put_in_turn row rows

-- the rows in the order of their stamps
abbrev pub by_turn : List Row → List Row
by_turn [] = []
by_turn (row ∷ rows) = put_in_turn row (by_turn rows)

-- the subscriptions in the order in which they joined or were last served
abbrev pub in_turn : World → List Subscription
in_turn w = map (λ row. row.subscription) (by_turn w.rows)

-- the same subscriptions in any order, but the members of each group in the same one
pub record SameInTurn (xs ys : List Subscription) : Type 0 where
  pub elements : SameElements xs ys
  pub members : (group : Group) → filter (is_in_group group) xs ≡ filter (is_in_group group) ys
