use Rattle.std.proofs.Common.{◌∙◌, sym, ap}
use Rattle.std.specs.Rc.{rc_str_bytes}
use Rattle.mq_subscriptions.specs.Filters.{Member, has_client, is_empty}
use Rattle.mq_subscriptions.proofs.EntryLemmas.{group-added, with_one-live}
use Rattle.mq_subscriptions.proofs.TextMaps.{lookup-texts, live-put}
use Rattle.mq_subscriptions.proofs.subscriptions.share_groups.ShareGroups.add.Goals as goal

pub returns-clause-ok : goal.returns-clause-ok
returns-clause-ok c =
    let es = c.self.inside.by_share.entries in
    rw (← c.self.view_is) (λ f. group-added c.args.share.now c.in_ok-name.name
    c.in_ok-name.ensures.ok es c.insert-2.new.self.entries
    (sym (lookup-texts c.args.share.now es) ∙ (rw (← c.self.view_is) at c.requires))
    c.insert.new.self c.in_ok-insert-2.ensures.entries f (rc_str_bytes c.args.client)
    c.args.options (rw c.new-group.ensures at c.in_ok-insert.ensures.ok))

pub invariant_of-self-2 : goal.invariant_of-self-2
invariant_of-self-2 c =
    let m : Member = (rc_str_bytes c.args.client, c.args.options) in
    rw c.in_ok-insert-2.ensures.entries
    (live-put c.self.inside.by_share.entries c.in_ok-name.name c.insert.new.self
    (ap is_empty c.in_ok-insert.ensures.ok
    ∙ with_one-live (has_client m.0) m c.new-group.result) c.self.invariant)
