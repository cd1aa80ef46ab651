use Rattle.std.proofs.Common.{◌∙◌, ap, inl, inr}
use Rattle.mq_acl.specs.Access.{concerns}
use Rattle.mq_reach.proofs.ReachLemmas.{among-more, overlap-more}
use Rattle.mq_reach.proofs.overlaps.add_overlapping.Goals.{then-may_overlap+in_ok-push, else-may_overlap}
use Rattle.mq_reach.proofs.overlaps.add_overlapping.Goals as goal

pub loop-other-preserved : goal.loop-other-preserved
loop-other-preserved c =
    let rows = c.args.rows.now in
    let old = c.loop-other.all.items in
    let new = c.if-may_overlap.all.items in
    let i = c.loop-other.other-index in
    let x = c.other-item.result in
    elim c.if-may_overlap.branch [
      | then-may_overlap+in_ok-push w ↦ record {
        concerns = λ client name user here.
            overlap-more (concerns client user name) old new rows i x c.loop-other-test.true
            c.other-item.is
            (inl (ap (λ v. v.items) w.all-is ∙ w.in_ok-push.ensures.items))
            ∙ c.loop-other.invariant.concerns client name user here;
        among = λ listed first all.
            among-more listed old new rows i x c.loop-other-test.true c.other-item.is
            (inl (ap (λ v. v.items) w.all-is ∙ w.in_ok-push.ensures.items)) all
            (c.loop-other.invariant.among listed first all);
      }
      | else-may_overlap w ↦ record {
        concerns = λ client name user here.
            overlap-more (concerns client user name) old new rows i x c.loop-other-test.true
            c.other-item.is
            (inr (
              ap (λ v. v.items) w.all-is,
              c.may_overlap.ensures w.if-may_overlap.false client name user here,
            ))
            ∙ c.loop-other.invariant.concerns client name user here;
        among = λ listed first all.
            among-more listed old new rows i x c.loop-other-test.true c.other-item.is
            (inr (ap (λ v. v.items) w.all-is)) all
            (c.loop-other.invariant.among listed first all);
      }
    ]
