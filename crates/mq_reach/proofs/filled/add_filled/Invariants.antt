use Rattle.std.proofs.Common.{◌≡◌, ◌||◌, ℕ, List, All, drop}
use Rattle.std.specs.List.{list_any}
use Rattle.std.specs.Option.{option_copied}
use Rattle.mq_acl.specs.Access.{concerns}
use Rattle.mq_acl.specs.Mosquitto.{row_covers}
use Rattle.mq_acl.specs.Views.{row_views}
use Rattle.mq_witness.specs.Rows.{lent_rows}
use Rattle.mq_reach.specs.Filled.{IsFilled}
use Rattle.mq_reach.proofs.filled.add_filled.Given as goal

-- the rows that are left add what all of them do
abbrev pub invariant-loop-row : goal.invariant-loop-row
invariant-loop-row l =
    let client = l.client.id.now in
    let user = option_copied l.client.user in
    record {
      covers : (name : List ℕ)
          → (list_any (concerns client user name) (row_views l.all.items)
          || list_any (row_covers client user name) (lent_rows (drop l.row-index l.rows)))
          ≡ (list_any (concerns client user name) (row_views l.fn.all.items)
          || list_any (row_covers client user name) (lent_rows l.rows));
      filled : All (IsFilled user) (row_views l.fn.all.items)
          → All (IsFilled user) (row_views l.all.items);
    }
