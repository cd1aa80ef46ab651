use Rattle.std.proofs.Common.{◌≡◌, false, ◌∙◌, ap, not, ◌+◌, suc, sym, subst, length, arith}
use Rattle.std.specs.List.{filter, AllByRecursion}
use Rattle.mq_tree.specs.Entries.{Entries}
use Rattle.mq_retained.specs.Deadlines.{is_due}
use Rattle.mq_retained.specs.Stored.{retained_in, IsSound, RetainedView}
use Rattle.mq_retained.proofs.DueLemmas.{OneDue, one-due, due-sound, sound-none-due, none_due-kept}
use Rattle.mq_retained.proofs.DueLemmas.{none_due-count}
use Rattle.mq_retained.proofs.FiledLemmas.{sound-filed}
use Rattle.mq_retained.specs.declared.retained.stored.Stored.{Stored}
use Rattle.mq_retained.proofs.retained.Retained.advance.Goals as goal

pub loop-topic-smaller : goal.loop-topic-smaller
loop-topic-smaller c =
    let one : OneDue c.args.moment c.loop-topic.self-inside.tree c.take.new.self =
    subst (λ (rest : Entries Stored). OneDue c.args.moment c.loop-topic.self-inside.tree rest)
    (sym (rw c.deref.ensures at c.take.ensures.rest))
    (one-due c.args.moment c.in-Some.topic.value c.loop-topic.self-inside.tree
    c.loop-topic.self-inside.deadlines
    c.take_due.new.self c.loop-topic.invariant.sound c.in-Some.ensures.some) in
    let fewer : suc (length c.take.new.self) ≡ length c.loop-topic.self-inside.tree = one.fewer in
    omega arith

pub loop-topic-preserved : goal.loop-topic-preserved
loop-topic-preserved c =
    let one : OneDue c.args.moment c.loop-topic.self-inside.tree c.take.new.self =
    subst (λ (rest : Entries Stored). OneDue c.args.moment c.loop-topic.self-inside.tree rest)
    (sym (rw c.deref.ensures at c.take.ensures.rest))
    (one-due c.args.moment c.in-Some.topic.value c.loop-topic.self-inside.tree
    c.loop-topic.self-inside.deadlines
    c.take_due.new.self c.loop-topic.invariant.sound c.in-Some.ensures.some) in
    let counted : suc (length (filter (is_due c.args.moment) (retained_in c.take.new.self)))
    ≡ length (filter (is_due c.args.moment) (retained_in c.loop-topic.self-inside.tree)) =
    one.count in
    let ticked : c.take_due.new.steps ≡ c.loop-topic.steps + 1 = c.in-Some.ensures.count in
    let before : c.loop-topic.steps + length
    (filter (is_due c.args.moment) (retained_in c.loop-topic.self-inside.tree)) ≡ c.args.steps.now
    + length (filter (is_due c.args.moment) (retained_in c.self.inside.tree)) =
    c.loop-topic.invariant.count in
    record {
      sound = subst (λ (rest : Entries Stored). IsSound rest c.take_due.new.self)
          (sym (rw c.deref.ensures at c.take.ensures.rest))
          (due-sound c.args.moment c.in-Some.topic.value c.loop-topic.self-inside.tree
          c.loop-topic.self-inside.deadlines
          c.take_due.new.self c.loop-topic.invariant.sound c.in-Some.ensures.some);
      rest = one.kept ∙ c.loop-topic.invariant.rest;
      count = omega arith;
    }

pub returns-clause-rest : goal.returns-clause-rest
returns-clause-rest c =
    let none : AllByRecursion (λ kept. is_due c.args.moment kept ≡ false)
    (retained_in c.loop-topic.self-inside.tree) =
    sound-none-due c.args.moment c.loop-topic.self-inside.tree c.loop-topic.self-inside.deadlines
    c.loop-topic.invariant.sound c.in_default.ensures.none in
    sym (none_due-kept c.args.moment (retained_in c.loop-topic.self-inside.tree) none)
    ∙ c.loop-topic.invariant.rest
    ∙ ap (λ (k : RetainedView). filter (λ kept. not (is_due c.args.moment kept)) k.messages)
    c.self.view_is

pub returns-clause-count : goal.returns-clause-count
returns-clause-count c =
    let none : AllByRecursion (λ kept. is_due c.args.moment kept ≡ false)
    (retained_in c.loop-topic.self-inside.tree) =
    sound-none-due c.args.moment c.loop-topic.self-inside.tree c.loop-topic.self-inside.deadlines
    c.loop-topic.invariant.sound c.in_default.ensures.none in
    let nobody : length (filter (is_due c.args.moment)
    (retained_in c.loop-topic.self-inside.tree)) ≡ 0 =
    none_due-count c.args.moment (retained_in c.loop-topic.self-inside.tree) none in
    let stays : c.take_due.new.steps ≡ c.loop-topic.steps + 0 = c.in_default.ensures.count in
    let seen : length (filter (is_due c.args.moment) (retained_in c.self.inside.tree))
    ≡ length (filter (is_due c.args.moment) c.args.self.now.messages) =
    ap (λ (k : RetainedView). length (filter (is_due c.args.moment) k.messages)) c.self.view_is in
    let before : c.loop-topic.steps + length
    (filter (is_due c.args.moment) (retained_in c.loop-topic.self-inside.tree)) ≡ c.args.steps.now
    + length (filter (is_due c.args.moment) (retained_in c.self.inside.tree)) =
    c.loop-topic.invariant.count in
    omega arith

pub returns-clause-filed : goal.returns-clause-filed
returns-clause-filed c =
    sound-filed c.loop-topic.self-inside.tree c.take_due.new.self
    (subst (λ pairs. IsSound c.loop-topic.self-inside.tree pairs) (sym c.in_default.ensures.stays)
    c.loop-topic.invariant.sound)
