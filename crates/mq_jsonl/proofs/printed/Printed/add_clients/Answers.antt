use Rattle.std.proofs.Common.{ap, ◌∙◌}
use Rattle.std.proofs.lemmas.Result.{err_from_is_err_and}
use Rattle.mq_world.specs.Views.{copy_of}
use Rattle.mq_jsonl.proofs.SharedLemmas.{text_of}
use Rattle.mq_jsonl.proofs.AddedLemmas.{none_added, more_added, client_added}
use Rattle.mq_jsonl.proofs.printed.Printed.add_clients.Goals as goal

pub returns-in_err-start-clause-err : goal.returns-in_err-start-clause-err
returns-in_err-start-clause-err c =
    let back = c.from_residual in
    let fault = err_from_is_err_and back.result back.ensures.1 in
    rw fault.1 (none_added c.args.out.now.items)

pub returns-in_err-client-clause-err : goal.returns-in_err-client-clause-err
returns-in_err-client-clause-err c =
    let back = c.from_residual-in_err-client in
    let fault = err_from_is_err_and back.result back.ensures.1 in
    rw fault.1 (none_added c.args.out.now.items)

pub returns-in_err-client-2-clause-err : goal.returns-in_err-client-2-clause-err
returns-in_err-client-2-clause-err c =
    let back = c.from_residual-in_err-client-2 in
    let fault = err_from_is_err_and back.result back.ensures.1 in
    rw fault.1 (_, c.loop-copy.invariant)

pub returns-in_err-add-clause-err : goal.returns-in_err-add-clause-err
returns-in_err-add-clause-err c =
    let back = c.from_residual-in_err-add in
    let fault = err_from_is_err_and back.result back.ensures.1 in
    rw fault.1 (more_added c.args.out.now.items _ _ _ c.loop-copy.invariant
    c.in_err-add.ensures.err)

pub loop-copy-preserved : goal.loop-copy-preserved
loop-copy-preserved c =
    client_added c.args.self.now.line (copy_of c.args.self.now.copy.now) c.args.further.now
    c.loop-copy.copy-index c.copy-item.result _ _ _ c.args.out.now.items c.loop-copy.out.items _
    c.around_client.ensures c.requires c.loop-copy-test.true c.copy-item.is
    (c.as_slice.ensures.value ∙ c.in_ok-client-2.ensures
    ∙ ap text_of c.as_str-in-loop-copy.ensures.value)
    c.loop-copy.invariant c.in_ok-add.ensures.ok
