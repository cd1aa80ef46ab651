use Rattle.std.proofs.Common.{◌≡◌, ◌∙◌, ap, sym, subst, Option, rules}
use Rattle.mq_tree.specs.Entries.{Entries}
use Rattle.mq_world.specs.Lists.{with_row}
use Rattle.mq_world.specs.World.{Retained, retained_cmp}
use Rattle.mq_retained.specs.Stored.{message_in, stored_until, retained_in, IsSound, RetainedView}
use Rattle.mq_retained.specs.Deadlines.{Pair, Drops}
use Rattle.mq_world.specs.Views.{message_of}
use Rattle.mq_retained.proofs.FiledLemmas.{same-kept, sound-filed}
use Rattle.mq_retained.proofs.IndexLemmas.{found-pair, replaced, replaced-none, stored-sound, stored-retained, undone-sound}
use Rattle.mq_retained.proofs.IndexLemmas.{undone-pairs}
use Rattle.mq_retained.specs.declared.retained.stored.Stored.{Stored}
use Rattle.mq_retained.proofs.retained.Retained.store.Goals as goal

-- what is stored has the topic of the message
topic_is : (s : Stored) (kept : Retained) → message_in s ≡ kept → s.topic.value ≡ kept.topic
topic_is s kept h = ap (λ (k : Retained). k.topic) h

pub invariant_of-self-in-Err : goal.invariant_of-self-in-Err
invariant_of-self-in-Err c =
    let pairs = c.self.inside.deadlines in
    subst (λ (tree : Entries Stored). IsSound tree c.remove.new.self) (sym c.in-Err.ensures.err)
    (undone-sound c.args.message.now.deadline c.args.message.now.topic.now c.self.inside.tree pairs
    c.insert.new.self c.remove.new.self
    c.in-Err.ensures.absent c.self.invariant (rw (topic_is c.in_ok-stored.stored _ c.in_ok-stored.ensures) at c.in_ok-insert.ensures.ok)
    (subst (λ (pair : Option Pair). Drops pair c.insert.new.self c.remove.new.self)
    (rw (topic_is c.in_ok-stored.stored _ c.in_ok-stored.ensures) at c.in_ok-new.ensures)
    c.remove.ensures))

pub invariant_of-self-in-Ok : goal.invariant_of-self-in-Ok
invariant_of-self-in-Ok c =
    let topic = c.args.message.now.topic.now in
    let kept : Retained = stored_until c.args.message.now.deadline (message_of c.args.message.now)
    in
    subst (λ (tree : Entries Stored). IsSound tree c.remove-in-Ok.new.self) (sym c.in-Ok.ensures.ok)
    (stored-sound c.in_ok-stored.stored kept c.self.inside.tree c.self.inside.deadlines
    c.insert.new.self c.remove-in-Ok.new.self
    c.in_ok-stored.ensures c.self.invariant (rw (topic_is c.in_ok-stored.stored _ c.in_ok-stored.ensures) at c.in_ok-insert.ensures.ok)
    (subst (λ (pair : Option Pair). Drops pair c.insert.new.self c.remove-in-Ok.new.self)
    (c.replaced.ensures
    ∙ found-pair (λ o t. replaced o c.args.message.now.deadline t)
    (replaced-none c.args.message.now.deadline) topic c.self.inside.tree c.in-Ok.older
    c.self.invariant.placed c.in-Ok.ensures.older)
    c.remove-in-Ok.ensures))

pub returns-clause-ok : goal.returns-clause-ok
returns-clause-ok c =
    let kept : Retained = stored_until c.args.message.now.deadline (message_of c.args.message.now)
    in
    ap retained_in c.in-Ok.ensures.ok
    ∙ stored-retained c.in_ok-stored.stored kept c.self.inside.tree c.in_ok-stored.ensures
    c.self.invariant.placed c.self.invariant.ordered
    ∙ ap (λ (k : RetainedView). with_row retained_cmp kept k.messages) c.self.view_is

pub returns-in-Err-clause-err : goal.returns-in-Err-clause-err
returns-in-Err-clause-err c =
    same-kept c.self.inside.tree c.put.new.self c.self.inside.deadlines c.remove.new.self
    c.in-Err.ensures.err
    (undone-pairs c.args.message.now.deadline c.args.message.now.topic.now c.self.inside.tree
    c.self.inside.deadlines c.insert.new.self c.remove.new.self
    c.in-Err.ensures.absent c.self.invariant (rw (topic_is c.in_ok-stored.stored _ c.in_ok-stored.ensures) at c.in_ok-insert.ensures.ok)
    (subst (λ (pair : Option Pair). Drops pair c.insert.new.self c.remove.new.self)
    (rw (topic_is c.in_ok-stored.stored _ c.in_ok-stored.ensures) at c.in_ok-new.ensures) c.remove.ensures))
    ∙ c.self.view_is

pub returns-clause-filed : goal.returns-clause-filed
returns-clause-filed c =
    let topic = c.args.message.now.topic.now in
    let kept : Retained = stored_until c.args.message.now.deadline (message_of c.args.message.now)
    in
    sound-filed c.put.new.self c.remove-in-Ok.new.self
    (subst (λ (tree : Entries Stored). IsSound tree c.remove-in-Ok.new.self)
    (sym c.in-Ok.ensures.ok)
    (stored-sound c.in_ok-stored.stored kept c.self.inside.tree c.self.inside.deadlines
    c.insert.new.self c.remove-in-Ok.new.self
    c.in_ok-stored.ensures c.self.invariant (rw (topic_is c.in_ok-stored.stored _ c.in_ok-stored.ensures) at c.in_ok-insert.ensures.ok)
    (subst (λ (pair : Option Pair). Drops pair c.insert.new.self c.remove-in-Ok.new.self)
    (c.replaced.ensures
    ∙ found-pair (λ o t. replaced o c.args.message.now.deadline t)
    (replaced-none c.args.message.now.deadline) topic c.self.inside.tree c.in-Ok.older
    c.self.invariant.placed c.in-Ok.ensures.older)
    c.remove-in-Ok.ensures)))

pub invariant_of-self : goal.invariant_of-self
invariant_of-self c = search rules
