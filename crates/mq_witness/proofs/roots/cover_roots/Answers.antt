use Rattle.std.proofs.Common.{sym, ◌∙◌}
use Rattle.mq_topic.specs.Levels.{levels}
use Rattle.mq_witness.specs.Roots.{marks_of}
use Rattle.mq_witness.proofs.RootLemmas.{cover_more, cover_skip, left_first}
use Rattle.mq_witness.proofs.roots.cover_roots.Goals as goal

pub loop-row-preserved-in_default : goal.loop-row-preserved-in_default
loop-row-preserved-in_default c =
    cover_skip (left_first c.args.rows.now c.loop-row.row-index c.row-item.result
    c.loop-row-test.true c.row-item.is)
    (λ client name other like d all. c.in_default.ensures.none client name other like d)
    c.loop-row.invariant

pub loop-row-preserved-then-not-may_meet_all : goal.loop-row-preserved-then-not-may_meet_all
loop-row-preserved-then-not-may_meet_all c =
    cover_skip (left_first c.args.rows.now c.loop-row.row-index c.row-item.result
    c.loop-row-test.true c.row-item.is)
    (λ client name other like d all. sym (c.in-Some.ensures.covers client name other like d)
    ∙ c.may_meet_all.ensures c.if-not-may_meet_all.true (marks_of client other) (levels name) all)
    c.loop-row.invariant

pub loop-row-preserved : goal.loop-row-preserved
loop-row-preserved c =
    cover_more (left_first c.args.rows.now c.loop-row.row-index c.row-item.result
    c.loop-row-test.true c.row-item.is) c.in_ok-push.ensures.items (record {
      covers = c.in-Some.ensures.covers;
      fits = c.in-Some.ensures.fits;
      begins = c.in-Some.ensures.begins;
    }) c.loop-row.invariant
