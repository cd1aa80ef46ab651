use Rattle.std.proofs.Common.{All, take, []}
use Rattle.mq_acl.specs.Views.{row_view}
use Rattle.mq_witness.specs.declared.topics.Topics.TheVariants as topics
use Rattle.mq_lint.specs.Cases.{NoneMeets, others_of, permits}
use Rattle.mq_lint.proofs.needless_lines.meets_grant.Given as goal

-- it denies clients of the first classes nothing
abbrev pub invariant-loop-clients : goal.invariant-loop-clients
invariant-loop-clients l = All (λ c. NoneMeets topics.All l.lint.asked c (row_view l.row) permits []
    (others_of c (row_view l.row) l.lint.asked.rows)) (take l.clients-index l.clients-items)
