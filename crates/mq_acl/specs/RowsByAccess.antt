-- The rows of a list by what they do.
use Rattle.std.specs.Prelude.{List, not}
use Rattle.std.specs.List.{filter}
use Rattle.mq_acl.specs.Access.{is_deny}
use Rattle.mq_acl.specs.ByOwner.{IsGrouped}
use Rattle.mq_acl.specs.Views.{access_view, row_who}
use Rattle.mq_acl.specs.declared.row.Row.{Row}
use Rattle.mq_acl.specs.declared.rows_by_access.RowsByAccess.{RowsByAccess}

-- those that deny, and the others
pub record IsSplit (rows : List Row) (by_access : RowsByAccess) : Type 0 where
  pub denies : IsGrouped row_who
      (filter (λ row. is_deny (access_view row.access)) rows) by_access.denies
  pub grants : IsGrouped row_who
      (filter (λ row. not (is_deny (access_view row.access))) rows) by_access.grants
