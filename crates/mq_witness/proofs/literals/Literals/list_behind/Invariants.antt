use Rattle.std.proofs.Common.{◌≡◌, ℕ, List, ◌||◌, ◌&&◌, drop, bytes_eq}
use Rattle.mq_witness.specs.Clients.{can_be_id}
use Rattle.mq_witness.specs.Literals.{is_among}
use Rattle.mq_witness.proofs.literals.Literals.list_behind.Given as goal

-- the texts that are left add what all of them do
abbrev pub invariant-loop-text : goal.invariant-loop-text
invariant-loop-text l = (t : List ℕ)
    → (is_among t l.all.items || (is_among t (drop l.text-index l.text-items) && can_be_id t))
    ≡ (bytes_eq t l.fn.first || (is_among t l.text-items && can_be_id t))
