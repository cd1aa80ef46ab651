-- Rows of a list by whom they are for.
use Rattle.std.specs.Prelude.{◌≡◌, List, true}
use denote.Ref.{Bor}
use Rattle.std.specs.List.{filter, list_all}
use Rattle.mq_acl.specs.Access.{grants, is_deny}
use Rattle.mq_acl.specs.ByOwner.{IsGrouped}
use Rattle.mq_acl.specs.Rows.{AclRow}
use Rattle.mq_acl.specs.Views.{row_who}
use Rattle.mq_acl.specs.declared.by_owner.ByOwner.{ByOwner}
use Rattle.mq_acl.specs.declared.row.Row.{Row}
use Rattle.mq_acl.specs.declared.access.Direction.TheVariants.{Reading}
use Rattle.mq_witness.specs.Limits.{has_short_levels}
use Rattle.mq_witness.specs.Rows.{lent_rows}

-- what is lent by whom it is for are these rows
pub record AreGrouped (rows : List AclRow) (by_owner : ByOwner (Bor Row)) : Type 0 where
  pub lent : List (Bor Row)
  pub are : lent_rows lent ≡ rows
  pub grouped : IsGrouped (λ row. row_who row.now) lent by_owner

-- the rows that grant reading, and those that deny, of rows that keep to the limit
pub record CanReach (rows : List AclRow) (granting denying : ByOwner (Bor Row)) : Type 0 where
  pub grants_grouped : AreGrouped (filter (λ row. grants Reading row.access) rows) granting
  pub denies_grouped : AreGrouped (filter (λ row. is_deny row.access) rows) denying
  pub all_short : list_all (λ row. has_short_levels row.filter) rows ≡ true
