use Rattle.std.proofs.Common.{drop}
use Rattle.std.specs.Option.{option_copied}
use Rattle.mq_witness.specs.Rows.{lent_rows}
use Rattle.mq_witness.proofs.RootLemmas.{IsCoverSoFar}
use Rattle.mq_witness.proofs.roots.cover_roots.Given as goal

abbrev pub invariant-loop-row : goal.invariant-loop-row
invariant-loop-row l = IsCoverSoFar l.front (option_copied l.user) l.dollar l.must (lent_rows l.rows)
    (lent_rows (drop l.row-index l.rows)) l.roots.items
