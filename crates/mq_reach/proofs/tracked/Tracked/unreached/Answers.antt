use Rattle.std.proofs.Common.{◌∙◌, Some, None, append-nil, ap, sym}
use Rattle.mq_reach.specs.Tracked.{subscription_views}
use Rattle.mq_reach.proofs.WalkLemmas.{shown-more}
use Rattle.mq_reach.proofs.tracked.Tracked.unreached.Goals as goal

pub loop-entry-preserved : goal.loop-entry-preserved
loop-entry-preserved c =
    ap subscription_views c.in_ok-push.ensures.items
    ∙ shown-more c.loop-entry.unreached.items c.loop-entry.yielded c.in-Some.entry
    (Some c.in-Some-shown.subscription) c.loop-entry.invariant c.in-Some-shown.ensures

pub loop-entry-preserved-in_default : goal.loop-entry-preserved-in_default
loop-entry-preserved-in_default c =
    ap subscription_views (sym (append-nil c.loop-entry.unreached.items))
    ∙ shown-more c.loop-entry.unreached.items c.loop-entry.yielded c.in-Some.entry None
    c.loop-entry.invariant c.in_default.ensures
