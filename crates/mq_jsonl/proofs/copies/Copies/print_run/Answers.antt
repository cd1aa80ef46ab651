use Rattle.std.proofs.Common.{◌++◌, [], sym, ◌∙◌}
use Rattle.std.proofs.lemmas.List.{append-nil}
use Rattle.std.proofs.lemmas.Result.{err_from_is_err_and}
use Rattle.mq_jsonl.proofs.AddedLemmas.{more_added, split_twice, run_added}
use Rattle.mq_jsonl.proofs.copies.Copies.print_run.Goals as goal

pub returns-in_err-text-clause-err : goal.returns-in_err-text-clause-err
returns-in_err-text-clause-err c =
    let fault = err_from_is_err_and c.from_residual.result c.from_residual.ensures.1 in
    rw fault.1 ([], sym (append-nil c.args.out.now.items))

pub add_messages-requires : goal.add_messages-requires
add_messages-requires c = rw c.split_at-2.ensures.front c.count_messages.ensures.same

pub returns-in_err-extend_from_slice-clause-err : goal.returns-in_err-extend_from_slice-clause-err
returns-in_err-extend_from_slice-clause-err c =
    let back = c.from_residual-in_err-extend_from_slice in
    let fault = err_from_is_err_and back.result back.ensures.1 in
    rw fault.1 (
      [],
      c.in_err-extend_from_slice.ensures.items
          ∙ sym (append-nil c.args.out.now.items),
    )

pub returns-in_err-add_clients-clause-err : goal.returns-in_err-add_clients-clause-err
returns-in_err-add_clients-clause-err c =
    let back = c.from_residual-in_err-add_clients in
    let fault = err_from_is_err_and back.result back.ensures.1 in
    rw fault.1 (more_added c.args.out.now.items _ _ _ c.in_ok-extend_from_slice.ensures.items
    c.in_err-add_clients.ensures.err)

pub returns-in_err-add_messages-clause-err : goal.returns-in_err-add_messages-clause-err
returns-in_err-add_messages-clause-err c =
    let back = c.from_residual-in_err-add_messages in
    let fault = err_from_is_err_and back.result back.ensures.1 in
    rw fault.1 (more_added c.args.out.now.items _ _ _ c.in_ok-extend_from_slice.ensures.items
    (more_added _ _ _ _ c.in_ok-add_clients.ensures.ok c.in_err-add_messages.ensures.err))

pub returns-clause-ok : goal.returns-clause-ok
returns-clause-ok c =
    let one = c.split_at in
    let two = c.split_at-2 in
    let clients = one.result.0.now in
    let messages = two.result.0.now in (
      clients ++ messages,
      split_twice c.args.others.now clients one.result.1.now messages two.result.1.now _ _
          one.ensures.front one.ensures.back two.ensures.front two.ensures.back,
      run_added c.args.line c.args.first.now clients messages c.as_slice.result.now
          c.args.out.now.items _ _ _ (c.as_slice.ensures.value ∙ c.in_ok-text.ensures.text)
          c.in_ok-extend_from_slice.ensures.items c.in_ok-add_clients.ensures.ok
          c.in_ok-add_messages.ensures.ok,
    )
