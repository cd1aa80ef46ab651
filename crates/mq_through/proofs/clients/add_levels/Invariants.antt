use Rattle.std.proofs.Common.{◌≡◌, ℕ, false, List, ◌||◌, length}
use Rattle.mq_topic.specs.Levels.{levels, levels_left}
use Rattle.mq_rename.specs.Lists.{has_long}
use Rattle.mq_witness.specs.Literals.{is_among}
use Rattle.mq_through.specs.Clients.{has_tried}
use Rattle.mq_through.specs.Tried.{AreClients}
use Rattle.mq_through.proofs.clients.add_levels.Given as goal

-- the levels that are left add what all of them do
abbrev pub invariant-loop-rest : goal.invariant-loop-rest
invariant-loop-rest l = record {
  among : (t : List ℕ)
      → (is_among t l.clients.items || has_tried t (levels_left l.rest))
      ≡ (is_among t l.fn.clients.items || has_tried t (levels l.fn.filter));
  clients : AreClients l.fn.clients.items → AreClients l.clients.items;
  short : has_long (levels_left l.rest) ≡ false;
}

abbrev pub decreases-loop-rest : goal.decreases-loop-rest
decreases-loop-rest l = length (levels_left l.rest)
