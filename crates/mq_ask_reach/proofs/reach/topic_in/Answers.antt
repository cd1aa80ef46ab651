use Rattle.std.proofs.Common.{IfNone, IfSome, Some, inl, subst}
use Rattle.std.proofs.lemmas.Result.{IfOk-from_err}
use Rattle.std.specs.Option.{option_copied}
use Rattle.mq_reach.specs.Reach.{Reads, ReadsNone}
use Rattle.mq_ask_reach.specs.Reach.{IsReach}
use Rattle.mq_ask_reach.proofs.ReachLemmas.{found_in}
use Rattle.mq_ask_reach.proofs.reach.topic_in.Goals as goal

pub returns-in-Ok-None-clause-ok : goal.returns-in-Ok-None-clause-ok
returns-in-Ok-None-clause-ok c = λ subscription is.
    let client = c.args.client.id.now in
    let user = option_copied c.args.client.user in
    let found = c.in-Ok-None.field-0 in
    let reads = c.in_ok-reach.ensures.ok in
    subst (IsReach c.args.rules c.args.list.text.now client user subscription)
    c.in-Ok-None.field-0-is
    (found_in c.args.rules c.args.list.text.now client user subscription c.args.filter.now
    c.args.rows.now found c.requires is
    (subst (λ list. IfNone found (ReadsNone list client user c.args.filter.now)) reads
    c.in-Ok-None.ensures.none)
    (subst (λ list. IfSome found (Reads list client user c.args.filter.now)) reads
    c.in-Ok-None.ensures.some))

pub returns-in-Ok-Some-clause-ok : goal.returns-in-Ok-Some-clause-ok
returns-in-Ok-Some-clause-ok c = λ subscription is.
    let client = c.args.client.id.now in
    let user = option_copied c.args.client.user in
    let filter = c.args.filter.now in
    let read = subst (λ found. IfSome found (Reads c.in_ok-reach.reach client user filter))
    c.in-Ok-Some.field-0-is c.in-Ok-Some.ensures.some in
    found_in c.args.rules c.args.list.text.now client user subscription filter c.args.rows.now
    (Some c.in_ok-shown-in-Ok-Some.shown) c.requires is tt
    (c.in_ok-shown-in-Ok-Some.ensures
    (subst (λ list. Reads list client user filter c.in-Ok-Some.topic) c.in_ok-reach.ensures.ok
    read))

pub returns-in_err-reach-clause-ok : goal.returns-in_err-reach-clause-ok
returns-in_err-reach-clause-ok c = IfOk-from_err c.from_residual.result _ c.from_residual.ensures.0

pub returns-in-Err-Memory-clause-ok : goal.returns-in-Err-Memory-clause-ok
returns-in-Err-Memory-clause-ok c = tt

pub returns-in-Err-Memory-clause-err : goal.returns-in-Err-Memory-clause-err
returns-in-Err-Memory-clause-err c = λ subscription is. inl tt
