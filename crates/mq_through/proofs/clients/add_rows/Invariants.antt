use Rattle.std.proofs.Common.{◌≡◌, ℕ, false, List, ◌||◌, drop}
use Rattle.std.specs.List.{list_any}
use Rattle.mq_acl.specs.Views.{row_views}
use Rattle.mq_regions.specs.Limits.{has_long_row}
use Rattle.mq_witness.specs.Literals.{is_among}
use Rattle.mq_through.specs.Clients.{row_tries}
use Rattle.mq_through.specs.Tried.{AreClients}
use Rattle.mq_through.proofs.clients.add_rows.Given as goal

-- the rows that are left add what all of them do
abbrev pub invariant-loop-row : goal.invariant-loop-row
invariant-loop-row l = record {
  among : (t : List ℕ) → (is_among t l.clients.items
      || list_any (row_tries t) (row_views (drop l.row-index l.rows)))
      ≡ (is_among t l.fn.clients.items || list_any (row_tries t) (row_views l.rows));
  clients : AreClients l.fn.clients.items → AreClients l.clients.items;
  short : has_long_row (row_views (drop l.row-index l.rows)) ≡ false;
}
