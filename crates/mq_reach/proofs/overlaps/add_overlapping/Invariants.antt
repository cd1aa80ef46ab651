use Rattle.std.proofs.Common.{◌≡◌, ◌||◌, true, ℕ, List, Option, All, Contains, drop}
use Rattle.std.specs.List.{list_any}
use Rattle.mq_acl.specs.Access.{concerns}
use Rattle.mq_acl.specs.Rows.{AclRow}
use Rattle.mq_acl.specs.Views.{row_view}
use Rattle.mq_witness.specs.Rows.{lent_rows}
use Rattle.mq_reach.proofs.overlaps.add_overlapping.Given as goal

-- the rows that are left add what all of them do
abbrev pub invariant-loop-other : goal.invariant-loop-other
invariant-loop-other l = record {
  concerns : (client name : List ℕ) (user : Option (List ℕ))
      → concerns client user name (row_view l.row) ≡ true
      → (list_any (concerns client user name) (lent_rows l.all.items)
      || list_any (concerns client user name) (lent_rows (drop l.other-index l.rows)))
      ≡ (list_any (concerns client user name) (lent_rows l.fn.all.items)
      || list_any (concerns client user name) (lent_rows l.rows));
  among : (listed : List AclRow) → All (Contains listed) (lent_rows l.fn.all.items)
      → All (Contains listed) (lent_rows l.rows)
      → All (Contains listed) (lent_rows l.all.items);
}
