use Rattle.std.proofs.Common.{◌∙◌, sym, ap, Some, option_map}
use Rattle.std.specs.Map.Iter.{deref_pair}
use Rattle.std.specs.Rc.{rc_str_bytes}
use Rattle.std.proofs.lemmas.Map.Iter.{rest_more}
use Rattle.mq_subscriptions.specs.Filters.{row}
use Rattle.mq_subscriptions.specs.Views.{texts}
use Rattle.mq_subscriptions.proofs.TextMaps.{ordered-texts}
use Rattle.mq_subscriptions.proofs.EntryTurnLemmas.{turns-group, turns-more}
use Rattle.mq_subscriptions.proofs.subscriptions.share_groups.ShareGroups.gather_turns.Goals as goal

pub loop-share-init : goal.loop-share-init
loop-share-init g c =
    let gives = c.into_iter-share-iterator.ensures.into_iter_gives in
    let es = c.self.inside.by_share.entries in
    λ share. rw (← c.self.view_is, gives.0)
    (rw (turns-group (g.T.ClientTest.passes c.args.test.now) c.args.filter.now.value share
    (texts es) (ordered-texts es gives.5)))

pub loop-share-preserved-in_ok-push : goal.loop-share-preserved-in_ok-push
loop-share-preserved-in_ok-push g c =
    let f = c.args.filter.now.value in
    let k = rc_str_bytes c.in-Some.share.now in
    let left = rest_more deref_pair _ _ _ (c.in-Some.share, c.in-Some.group) c.in-Some.is
    c.next.ensures.steps in
    λ share. turns-more (g.T.ClientTest.passes c.args.test.now) f share _ _ _
    (k, c.in-Some.group.now) (texts c.next.new.self)
    c.in_ok-push.ensures.items c.in_ok-of.ensures.share
    (ap (option_map (row (Some k) f)) (sym c.in-Some-next.ensures)
    ∙ ap (λ s. Some s) (sym c.in_ok-of.ensures.row)) ∙ (rw left at (c.loop-share.invariant share))
