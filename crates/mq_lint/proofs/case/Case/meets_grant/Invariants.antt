use Rattle.std.proofs.Common.{All, take, []}
use Rattle.mq_acl.specs.Views.{row_view}
use Rattle.mq_witness.specs.declared.topics.Topics.TheVariants as topics
use Rattle.mq_lint.specs.Cases.{permits}
use Rattle.mq_lint.proofs.LoopLemmas.{NoneMet}
use Rattle.mq_lint.proofs.case.Case.meets_grant.Given as goal

-- none of the first meets it
abbrev pub invariant-loop-other : goal.invariant-loop-other
invariant-loop-other l = All (NoneMet topics.All l.self.question.asked.now l.self.question.clients
    (row_view l.self.question.row.now) permits []) (take l.other-index l.other-items)
