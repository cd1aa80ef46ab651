use Rattle.std.proofs.Common.{◌∙◌, refl, ap, sym, subst, not, Option}
use Rattle.std.specs.List.{filter}
use Rattle.mq_tree.specs.Entries.{Entries}
use Rattle.mq_world.specs.Retained.{has_topic}
use Rattle.mq_retained.specs.Deadlines.{Pair, Drops}
use Rattle.mq_retained.specs.Stored.{retained_in, IsSound, RetainedView}
use Rattle.mq_retained.proofs.FiledLemmas.{sound-filed}
use Rattle.mq_retained.proofs.RetainedLemmas.{take-retained}
use Rattle.mq_retained.proofs.IndexLemmas.{found-pair, pair_at, taken-sound}
use Rattle.mq_retained.specs.declared.retained.stored.Stored.{Stored}
use Rattle.mq_retained.proofs.retained.Retained.clear.Goals as goal

pub invariant_of-self : goal.invariant_of-self
invariant_of-self c =
    let topic = c.args.topic.now in
    subst (λ (tree : Entries Stored). IsSound tree c.remove.new.self) (sym c.take-gone.ensures.rest)
    (taken-sound topic c.self.inside.tree c.self.inside.deadlines c.remove.new.self c.self.invariant
    (subst (λ (older : Option Pair). Drops older c.self.inside.deadlines c.remove.new.self)
    (c.due_of_gone.ensures ∙ found-pair pair_at (λ t. refl) topic c.self.inside.tree
    c.take-gone.result c.self.invariant.placed c.take-gone.ensures.value)
    c.remove.ensures))

pub returns-clause-rest : goal.returns-clause-rest
returns-clause-rest c =
    ap retained_in c.take-gone.ensures.rest
    ∙ take-retained c.args.topic.now c.self.inside.tree c.self.invariant.placed
    c.self.invariant.ordered
    ∙ ap (λ (k : RetainedView). filter (λ kept. not (has_topic c.args.topic.now kept)) k.messages)
    c.self.view_is

pub returns-clause-filed : goal.returns-clause-filed
returns-clause-filed c =
    let topic = c.args.topic.now in
    sound-filed c.take-gone.new.self c.remove.new.self
    (subst (λ (tree : Entries Stored). IsSound tree c.remove.new.self) (sym c.take-gone.ensures.rest)
    (taken-sound topic c.self.inside.tree c.self.inside.deadlines c.remove.new.self c.self.invariant
    (subst (λ (older : Option Pair). Drops older c.self.inside.deadlines c.remove.new.self)
    (c.due_of_gone.ensures ∙ found-pair pair_at (λ t. refl) topic c.self.inside.tree
    c.take-gone.result c.self.invariant.placed c.take-gone.ensures.value)
    c.remove.ensures)))
