use Rattle.std.proofs.Common.{[], arith, sym, subst}
use Rattle.std.proofs.lemmas.Result.{err_from_is_err_and}
use Rattle.mq_acl.specs.AccessLists.{AccessList}
use Rattle.mq_jsonl.specs.Lines.{all_lines}
use Rattle.mq_reach.specs.Faults.{IsFaultAmong}
use Rattle.mq_reach.specs.Subscriptions.{subscriptions}
use Rattle.mq_jsonl.specs.Feeding.{script_limit}
use Rattle.mq_reach.specs.Script.{TakesBytes}
use Rattle.mq_reach.proofs.FaultLemmas.{script_fault, stopped}
use Rattle.mq_reach.proofs.ScriptLemmas.{HoldsScript-start}
use Rattle.mq_reach.proofs.reading.find_unreached.Goals as goal

pub finish-requires : goal.finish-requires
unfolding script_limit
finish-requires g c = let lines = c.in_ok-read_lines.ensures.lines in omega arith

pub read_lines-requires-clause-room : goal.read_lines-requires-clause-room
unfolding script_limit
read_lines-requires-clause-room g c = c.new-2.ensures.room

pub returns-clause-ok : goal.returns-clause-ok
unfolding TakesBytes
returns-clause-ok g c =
    let list = c.in_ok-list.list in
    let read = c.in_ok-read_lines.ensures.ok in
    let start = HoldsScript-start list c.new.result c.new-2.result (c.new.ensures.searched list)
    c.new-2.ensures.holds in
    let is = c.in_ok-list.ensures.ok in
    (read.0, read.1, read.2, rw (sym is) (c.in_ok-finish.ensures.ok read.0 (read.3 [] start)))

pub returns-in_err-read_lines-clause-err : goal.returns-in_err-read_lines-clause-err
returns-in_err-read_lines-clause-err g c =
    let fault = err_from_is_err_and c.from_residual-in_err-read_lines.result
    c.from_residual-in_err-read_lines.ensures.1 in
    let list = c.in_ok-list.list in
    let start = HoldsScript-start list c.new.result c.new-2.result (c.new.ensures.searched list)
    c.new-2.ensures.holds in
    rw (fault.1, fault.2) (stopped c.args.rules c.args.rows.now list _ _ _ _
    c.in_ok-list.ensures.ok start
    c.in_err-read_lines.ensures.err)

pub returns-in_err-finish-clause-err : goal.returns-in_err-finish-clause-err
unfolding TakesBytes
returns-in_err-finish-clause-err g c =
    let fault = err_from_is_err_and c.from_residual-in_err-finish.result
    c.from_residual-in_err-finish.ensures.1 in
    let list = c.in_ok-list.list in
    let read = c.in_ok-read_lines.ensures.ok in
    let start = HoldsScript-start list c.new.result c.new-2.result (c.new.ensures.searched list)
    c.new-2.ensures.holds in
    rw (fault.1, fault.2) (
      read.0,
      read.1,
      script_fault c.args.rules c.args.rows.now read.0 _
          (subst (λ (l : AccessList). IsFaultAmong l (subscriptions (all_lines read.0))
          c.in_err-finish.field-0.0) c.in_ok-list.ensures.ok
          (c.in_err-finish.ensures.err read.0 (read.3 [] start))),
    )
