use Rattle.std.proofs.Common.{◌≡◌, ℕ, List, ◌||◌, drop}
use Rattle.mq_witness.specs.Literals.{is_named}
use Rattle.mq_witness.specs.Rows.{all_rows, rows_name}
use Rattle.mq_witness.proofs.asked.names_in.Given as goal

-- the lists that are left add what all of them do
abbrev pub invariant-loop-rows : goal.invariant-loop-rows
invariant-loop-rows l = (t : List ℕ)
    → (is_named t l.names || rows_name t (all_rows (drop l.rows-index l.lists)))
    ≡ rows_name t (all_rows l.lists)
