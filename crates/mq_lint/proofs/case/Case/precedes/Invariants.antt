use Rattle.std.proofs.Common.{All, take}
use Rattle.mq_acl.specs.Views.{row_view}
use Rattle.mq_witness.specs.Rows.{lent_rows}
use Rattle.mq_witness.specs.declared.topics.Topics.TheVariants.{Open}
use Rattle.mq_lint.specs.Cases.{is_at}
use Rattle.mq_lint.proofs.LoopLemmas.{NoneMet}
use Rattle.mq_lint.proofs.case.Case.precedes.Given as goal

-- the row comes before none of the first
abbrev pub invariant-loop-other : goal.invariant-loop-other
invariant-loop-other l = All (NoneMet (Open l.direction) l.self.question.asked.now l.self.question.clients
    (row_view l.self.question.row.now) (is_at l.rules l.direction l.place)
    (lent_rows l.cover.items)) (take l.other-index l.other-items)
