use Rattle.std.proofs.Common.{◌≡◌, ◌∙◌, ◌+◌, ap, sym, subst, map, length}
use Rattle.std.specs.List.{filter}
use Rattle.std.specs.Option.{option_copied}
use Rattle.std.proofs.lemmas.Simd.{map-map}
use Rattle.mq_topic.specs.Levels.{levels}
use Rattle.mq_topic.specs.Prefixes.{prefixes, met_by_filter}
use Rattle.mq_world.specs.World.{Retained}
use Rattle.mq_world.specs.Counts.{topics_of}
use Rattle.mq_world.specs.Copies.{filter_matches}
use Rattle.mq_retained.specs.Receivers.{subscription_for}
use Rattle.mq_retained.specs.Stored.{AreNear, message_in, RetainedView}
use Rattle.mq_retained.proofs.RetainedLemmas.{matched-retained, keys-retained}
use Rattle.mq_retained.proofs.SendingLemmas.{sent-is}
use Rattle.mq_retained.proofs.NearLemmas.{near-filter}
use Rattle.mq_retained.proofs.retained.Retained.copies.Goals as goal

pub copies_of-requires : goal.copies_of-requires
copies_of-requires c =
    let topic_filter = c.args.receiver.now.filter.now in
    let seen : map (λ s. message_in s.now) c.as_slice.result.now
    ≡ filter (λ kept. filter_matches topic_filter kept.topic) c.args.self.now.messages =
    ap (map (λ s. message_in s.now)) c.as_slice.ensures.value
    ∙ sym (map-map message_in (λ s. s.now) c.in_ok-found.found.items)
    ∙ ap (map message_in) c.in_ok-found.ensures.found
    ∙ matched-retained topic_filter c.self.inside.tree c.self.invariant.placed
    ∙ ap (λ (k : RetainedView). filter (λ (kept : Retained). filter_matches topic_filter kept.topic)
    k.messages) c.self.view_is in
    subst (λ retained. AreNear c.args.receiver.now.clock.moment retained) (sym seen)
    (near-filter c.args.receiver.now.clock.moment (λ kept. filter_matches topic_filter kept.topic)
    c.args.self.now.messages c.requires)

pub returns-clause-copies : goal.returns-clause-copies
returns-clause-copies c =
    let topic_filter = c.args.receiver.now.filter.now in
    let seen : map (λ s. message_in s.now) c.as_slice.result.now
    ≡ filter (λ kept. filter_matches topic_filter kept.topic) c.args.self.now.messages =
    ap (map (λ s. message_in s.now)) c.as_slice.ensures.value
    ∙ sym (map-map message_in (λ s. s.now) c.in_ok-found.found.items)
    ∙ ap (map message_in) c.in_ok-found.ensures.found
    ∙ matched-retained topic_filter c.self.inside.tree c.self.invariant.placed
    ∙ ap (λ (k : RetainedView). filter (λ (kept : Retained). filter_matches topic_filter kept.topic)
    k.messages) c.self.view_is in
    c.in_ok-copies.ensures
    ∙ sent-is c.args.receiver.now.clock.moment c.args.receiver.now.access.now
    (option_copied c.args.receiver.now.user) (subscription_for c.args.receiver.now)
    c.args.self.now.messages _ seen

pub returns-clause-count : goal.returns-clause-count
returns-clause-count c =
    let topic_filter = c.args.receiver.now.filter.now in
    c.in_ok-found.ensures.count
    ∙ ap (λ keys. c.args.steps.now + length (met_by_filter (levels topic_filter) (prefixes keys)))
    (keys-retained c.self.inside.tree c.self.invariant.placed
    ∙ ap (λ (k : RetainedView). topics_of k.messages) c.self.view_is)
