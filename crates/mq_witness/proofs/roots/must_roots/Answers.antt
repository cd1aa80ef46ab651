use Rattle.mq_witness.proofs.RootLemmas.{left_first, must_more, must_none}
use Rattle.mq_witness.proofs.roots.must_roots.Goals as goal

pub returns-in_default-clause-none : goal.returns-in_default-clause-none
returns-in_default-clause-none c =
    must_none (left_first c.args.rows.now c.loop-row.row-index c.row-item.result
    c.loop-row-test.true c.row-item.is) c.in_default.ensures.none c.loop-row.invariant

pub loop-row-preserved : goal.loop-row-preserved
loop-row-preserved c =
    must_more (left_first c.args.rows.now c.loop-row.row-index c.row-item.result
    c.loop-row-test.true c.row-item.is) c.in_ok-push.ensures.items (record {
      covers = c.in-Some.ensures.covers;
      fits = c.in-Some.ensures.fits;
      begins = c.in-Some.ensures.begins;
    }) c.loop-row.invariant
