use Rattle.std.proofs.lemmas.Result.{IfOk-weaker}
use Rattle.mq_through.proofs.EveryLemmas.{none_shown_of}
use Rattle.mq_through.proofs.through.compare_through.Goals as goal

pub returns-clause-same : goal.returns-clause-same
returns-clause-same c =
    let k = c.in_ok-comparison.comparison in
    IfOk-weaker c.changes.result _ _
    (λ all every. none_shown_of c.args.plan.now k.plan.now c.args.old.now k.old.now c.args.new.now
    k.new.now all.items c.in_ok-comparison.ensures.plan c.in_ok-comparison.ensures.old
    c.in_ok-comparison.ensures.new every)
    c.changes.ensures.every

pub returns-in-Some-clause-fault : goal.returns-in-Some-clause-fault
returns-in-Some-clause-fault c = c.in-Some.ensures.some c.args.steps
