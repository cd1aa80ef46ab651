-- The rows of a list by whom they are for.
use Rattle.std.specs.Prelude.{◌≡◌, Bool, true, false, List, [], ◌||◌, Some, None}
use Rattle.std.specs.List.{filter}
use Rattle.std.specs.Str.{bytes_eq}
use Rattle.mq_acl.specs.ByOwner.{own_items}
use Rattle.mq_acl.specs.ByOwner as acl
use Rattle.mq_acl.specs.Rows.{Who}
use Rattle.mq_acl.specs.Rows as rows
use Rattle.mq_acl.specs.RowsByOwner.{is_everyones}
use Rattle.mq_acl.specs.Views.{row_view}
use Rattle.mq_shapes.specs.declared.clients.Clients.{Clients}
use Rattle.mq_shapes.specs.declared.clients.Clients.TheVariants.{Anonymous, Named, Others}
use Rattle.mq_differences.specs.declared.by_owner.ByOwner.{ByOwner}
use Rattle.mq_differences.specs.declared.marks.Marked.{Marked}

-- a row is for these clients alone
abbrev pub is_own : Clients → Who → Bool
is_own Anonymous rows.Anonymous = true
is_own (Named name) rows.Anonymous = false
is_own Others rows.Anonymous = false
is_own Anonymous (rows.Named user) = false
is_own (Named name) (rows.Named user) = bytes_eq name.now user
is_own Others (rows.Named user) = false
is_own clients rows.Everyone = false

-- a row is for these clients, alone or among others
abbrev pub is_for : Clients → Who → Bool
is_for clients who = is_everyones who || is_own clients who

abbrev pub everyones : ByOwner → List Marked
everyones by_owner = acl.everyones by_owner.rows

abbrev pub own_rows : Clients → ByOwner → List Marked
own_rows Anonymous by_owner = own_items None by_owner.rows
own_rows (Named name) by_owner = own_items (Some name.now) by_owner.rows
own_rows Others by_owner = []

-- the rows by whom they are for, each group in their order
pub record IsGrouped (all : List Marked) (by_owner : ByOwner) : Type 0 where
  pub everyone : everyones by_owner ≡ filter (λ m. is_everyones (row_view m.row.now).who) all
  pub own : (clients : Clients) → own_rows clients by_owner
      ≡ filter (λ m. is_own clients (row_view m.row.now).who) all
