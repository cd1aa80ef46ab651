use Rattle.std.proofs.Common.{ℕ, Vec, Global, sym, ap, ◌∙◌}
use Rattle.std.proofs.lemmas.Slice.Eq.{bytes_eq-Decides}
use Rattle.std.proofs.lemmas.Result.{err_from_is_err_and}
use Rattle.mq_world.specs.Views.{copy_of}
use Rattle.mq_jsonl.proofs.SharedLemmas.{text_of}
use Rattle.mq_jsonl.proofs.AddedLemmas.{none_added, more_added, topic_added, message_added}
use Rattle.mq_jsonl.proofs.AddedLemmas.{not_for_group}
use Rattle.mq_jsonl.proofs.printed.Printed.add_messages.Goals as goal
use Rattle.mq_jsonl.proofs.printed.Printed.add_messages.Goals.{then-eq+in_ok-add}
use Rattle.mq_jsonl.proofs.printed.Printed.add_messages.Goals.{else-eq+in_ok-payload-2+in_ok-add_two}

pub returns-in_err-payload-clause-err : goal.returns-in_err-payload-clause-err
returns-in_err-payload-clause-err c =
    let back = c.from_residual in
    let fault = err_from_is_err_and back.result back.ensures.1 in
    rw fault.1 (none_added c.args.out.now.items)

pub returns-in_err-topic-clause-err : goal.returns-in_err-topic-clause-err
returns-in_err-topic-clause-err c =
    let back = c.from_residual-in_err-topic in
    let fault = err_from_is_err_and back.result back.ensures.1 in
    rw fault.1 (none_added c.args.out.now.items)

pub returns-in_err-rest-clause-err : goal.returns-in_err-rest-clause-err
returns-in_err-rest-clause-err c =
    let back = c.from_residual-in_err-rest in
    let fault = err_from_is_err_and back.result back.ensures.1 in
    rw fault.1 (none_added c.args.out.now.items)

pub returns-in_err-topic-2-clause-err : goal.returns-in_err-topic-2-clause-err
returns-in_err-topic-2-clause-err c =
    let back = c.from_residual-in_err-topic-2 in
    let fault = err_from_is_err_and back.result back.ensures.1 in
    rw fault.1 (_, c.loop-copy.invariant)

pub returns-in_err-add-clause-err : goal.returns-in_err-add-clause-err
returns-in_err-add-clause-err c =
    let back = c.from_residual-in_err-add in
    let fault = err_from_is_err_and back.result back.ensures.1 in
    rw fault.1 (more_added c.args.out.now.items _ _ _ c.loop-copy.invariant
    c.in_err-add.ensures.err)

pub returns-in_err-payload-2-clause-err : goal.returns-in_err-payload-2-clause-err
returns-in_err-payload-2-clause-err c =
    let back = c.from_residual-in_err-payload-2 in
    let fault = err_from_is_err_and back.result back.ensures.1 in
    rw fault.1 (_, c.loop-copy.invariant)

pub returns-in_err-add_two-clause-err : goal.returns-in_err-add_two-clause-err
returns-in_err-add_two-clause-err c =
    let back = c.from_residual-in_err-add_two in
    let fault = err_from_is_err_and back.result back.ensures.1 in
    rw fault.1 (more_added c.args.out.now.items _ _ _ c.loop-copy.invariant
    c.in_err-add_two.ensures.err)

pub around_message-requires-clause-group : goal.around_message-requires-clause-group
around_message-requires-clause-group c =
    not_for_group c.args.self.now.copy.now c.args.further.now
    (sym c.is_empty.ensures ∙ c.if-is_empty.false) c.requires

pub loop-copy-preserved : goal.loop-copy-preserved
loop-copy-preserved c =
    let k = c.args.self.now.line in
    let copy = copy_of c.args.self.now.copy.now in
    let topic = c.in_ok-topic-2.ensures ∙ ap text_of c.topic_of-in-loop-copy.ensures in
    elim c.if-eq.branch [
      | then-eq+in_ok-add w ↦
          ap (λ (v : Vec ℕ Global). v.items) w.out-is
          ∙ topic_added k copy c.args.further.now c.loop-copy.copy-index c.copy-item.result _ _ _
          c.args.out.now.items c.loop-copy.out.items _ c.around_topic.ensures c.requires
          c.loop-copy-test.true c.copy-item.is
          ((bytes_eq-Decides _ _).0 (sym c.eq.ensures ∙ w.if-eq.true))
          (w.as_slice.ensures.value ∙ topic) c.loop-copy.invariant w.in_ok-add.ensures.ok
      | else-eq+in_ok-payload-2+in_ok-add_two w ↦
          ap (λ (v : Vec ℕ Global). v.items) w.out-is
          ∙ message_added k copy c.args.further.now c.loop-copy.copy-index c.copy-item.result
          _ _ _ _ _ c.args.out.now.items c.loop-copy.out.items _ c.around_message.ensures c.requires
          c.loop-copy-test.true c.copy-item.is
          (w.as_slice-else-eq.ensures.value ∙ w.in_ok-payload-2.ensures
          ∙ ap text_of w.as_str-else-eq.ensures.value)
          (w.as_slice-else-eq-2.ensures.value ∙ topic) c.loop-copy.invariant
          w.in_ok-add_two.ensures.ok
    ]
