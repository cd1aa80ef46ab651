-- Words of the contracts: what changes at one filter, whatever its text is.
use Rattle.std.specs.Prelude.{◌≡◌, not, List, Option, Some}
use Rattle.std.specs.List.{filter}
use Rattle.mq_world.specs.Lists.{Text}
use Rattle.mq_world.specs.World.{Subscription, has_key}
use Rattle.mq_world.specs.Turns.{SameInTurn}
use Rattle.mq_subscriptions.specs.Turns.{upsert, put_last}
use Rattle.mq_subscriptions.specs.Filters.{Member, Entry, GroupList, row, group_rows}

-- the subscription takes the place of the one with its key, or goes last
abbrev pub Joins : Subscription → List Subscription → List Subscription → Type 0
Joins s old new = SameInTurn new (upsert s old)

-- the member joins at the filter, in its own name or in a group
abbrev pub JoinsEntry : Option Text → Member → Entry → List Subscription → Type 0
JoinsEntry share m old new = Joins (row share old.filter m) old.rows new

abbrev pub GroupJoins : Text → Member → GroupList → GroupList → Type 0
GroupJoins share m old new =
    (f : Text) → Joins (row (Some share) f m) (group_rows f old) (group_rows f new)

abbrev pub GroupLeaves : Text → Text → GroupList → GroupList → Type 0
GroupLeaves share client old new = (f : Text)
    → group_rows f new ≡ filter (λ s. not (has_key client (Some share) f s)) (group_rows f old)

-- the member goes last in its group
abbrev pub GroupTurns : Text → Text → GroupList → GroupList → Type 0
GroupTurns share client old new = (f : Text)
    → SameInTurn (group_rows f new) (put_last (has_key client (Some share) f) (group_rows f old))
