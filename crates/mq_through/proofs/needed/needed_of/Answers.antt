use Rattle.mq_through.specs.Needed.{asks_in}
use Rattle.mq_through.proofs.NeededLemmas.{kept_step, left_step}
use Rattle.mq_through.proofs.needed.needed_of.Goals as goal

pub loop-row-preserved-then-not-branch : goal.loop-row-preserved-then-not-branch
loop-row-preserved-then-not-branch c =
    let region = c.args.region.now in
    left_step region (asks_in c.args.side region.kind) c.args.rows.now c.loop-row.kept.items
    c.loop-row.row-index c.row-item.result c.loop-row-test.true c.row-item.is
    (c.in_ok-may_decide.ensures c.if-not-branch.true) c.loop-row.invariant

pub loop-row-preserved : goal.loop-row-preserved
loop-row-preserved c =
    let region = c.args.region.now in
    kept_step region (asks_in c.args.side region.kind) c.args.rows.now c.loop-row.kept.items
    c.push.new.self.items c.loop-row.row-index c.row-item.result c.in_ok-copy.copy
    c.loop-row-test.true c.row-item.is c.in_ok-push.ensures.items
    c.in_ok-copy.ensures.line c.in_ok-copy.ensures.view c.loop-row.invariant
