use Rattle.std.proofs.Common.{◌≡◌, ◌+◌, ◌∙◌, true, false, length, ap, sym, subst}
use Rattle.std.specs.Prelude.{is_some}
use Rattle.std.specs.Map.{lookup}
use Rattle.mq_topic.specs.Levels.{levels}
use Rattle.mq_tree.specs.Entries.{Entries, is_key, AreInOrder}
use Rattle.mq_topic.specs.Prefixes.{capped}
use Rattle.mq_retained.specs.Stored.{AreCounted}
use Rattle.mq_retained.proofs.MessageCounts.{taken-fewer, none-taken}
use Rattle.mq_retained.proofs.RetainedLemmas.{take-ordered}
use Rattle.mq_retained.specs.declared.retained.stored.Stored.{Stored}
use Rattle.mq_retained.proofs.retained.messages.Messages.take.Goals as goal

pub one_less-self-inside-requires : goal.one_less-self-inside-requires
one_less-self-inside-requires c =
    let k = levels c.args.topic.now in
    let tree = c.self.inside.by_topic in
    let some : is_some (lookup (is_key k) tree) ≡ true = ap is_some (sym c.take-taken.ensures.value)
    ∙ sym c.if-is_some.ensures in
    c.self.invariant.number
    ∙ ap capped (taken-fewer k tree some
    ∙ ap (λ (rest : Entries Stored). length rest + 1) (sym c.take-taken.ensures.rest))

pub invariant_of-self : goal.invariant_of-self
invariant_of-self c = record {
  ordered = subst (λ (rest : Entries Stored). AreInOrder rest) (sym c.take-taken.ensures.rest)
      (take-ordered (levels c.args.topic.now) c.self.inside.by_topic c.self.invariant.ordered);
  number = c.one_less-self-inside.ensures;
}

pub invariant_of-self-else-is_some : goal.invariant_of-self-else-is_some
invariant_of-self-else-is_some c =
    let k = levels c.args.topic.now in
    let tree = c.self.inside.by_topic in
    let none : is_some (lookup (is_key k) tree) ≡ false =
    ap is_some (sym c.take-taken.ensures.value) ∙ sym c.if-is_some.ensures in
    subst (λ (rest : Entries Stored). AreCounted c.self.inside.count rest)
    (sym c.take-taken.ensures.rest)
    (none-taken c.self.inside.count k tree none c.self.invariant)
