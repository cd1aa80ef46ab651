use Rattle.std.proofs.Common.{List, length, rules, subst}
use Rattle.std.proofs.lemmas.Iterator.Adapters.{YieldsList-from_vec}
use Rattle.std.proofs.lemmas.Iterator.Consumers.{YieldsList-end, YieldsList-turn}
use Rattle.std.proofs.lemmas.Result.{err_from_is_err_and}
use Rattle.mq_acl.specs.declared.row.Row.{Row}
use Rattle.mq_acl.specs.declared.rules.Rules.TheVariants.{Own}
use Rattle.mq_differences.specs.Differences.{ShowsAll}
use Rattle.mq_differences.specs.declared.difference.Difference.{Difference}
use Rattle.mq_through.proofs.AddingLemmas.{IsAdding, adding_all, adding_more, all_seen, are_made}
use Rattle.mq_through.proofs.AddingLemmas.{real_at}
use Rattle.mq_through.proofs.ClientLemmas.{differs_by, name_fault}
use Rattle.mq_through.proofs.FaultLemmas.{few_steps}
use Rattle.mq_through.proofs.tried.add_client.Goals as goal

pub renamed-requires : goal.renamed-requires
renamed-requires c =
    let k = c.args.comparison.now in
    let old = c.args.made.now.old.items in
    let new = c.args.made.now.new.items in
    let all = c.in_ok-difference-items.difference-items.items in
    let gives = c.into_iter-difference-iterator.ensures.into_iter_gives in
    let turn = YieldsList-turn (YieldsList-from_vec {s = c.into_iter-difference-iterator.result} all
    gives.0 (search rules))
    c.loop-difference.yielded c.loop-difference.difference-iterator c.loop-difference.yielded_by
    c.next.result c.next.new.self c.in-Some.difference c.in-Some.is
    c.next.ensures.steps in
    differs_by k.plan.now k.old.now k.new.now c.args.region.now c.args.client.now k.users.items old
    new (are_made k c.args.region.now c.args.client.now old new c.requires.comparison
    c.requires.region c.requires.client c.requires.made.old_list c.requires.made.new_list
    c.requires.made.names) c.in-Some.difference
    (real_at old new c.deref.result.now c.deref-2.result.now all
    (length c.loop-difference.yielded) c.in-Some.difference c.deref.ensures.value
    c.deref-2.ensures.value c.in_ok-difference-items.ensures.real turn.0 turn.1)

pub returns-in_err-difference-items-clause-fault : goal.returns-in_err-difference-items-clause-fault
returns-in_err-difference-items-clause-fault c =
    let fault = err_from_is_err_and c.from_residual.result
    c.from_residual.ensures.1 in
    rw (fault.1, fault.2) (few_steps c.args.comparison.now c.args.region.now c.args.client.now
    c.args.made.now c.deref.result.now c.deref-2.result.now c.in_err-difference-items.field-0.0
    c.requires.region c.requires.client c.requires.made c.deref.ensures.value
    c.deref-2.ensures.value c.in_err-difference-items.ensures.fault)

pub returns-in_err-renamed-clause-fault : goal.returns-in_err-renamed-clause-fault
returns-in_err-renamed-clause-fault c =
    let k = c.args.comparison.now in
    let old = c.args.made.now.old.items in
    let new = c.args.made.now.new.items in
    let all = c.in_ok-difference-items.difference-items.items in
    let gives = c.into_iter-difference-iterator.ensures.into_iter_gives in
    let turn = YieldsList-turn (YieldsList-from_vec {s = c.into_iter-difference-iterator.result} all
    gives.0 (search rules))
    c.loop-difference.yielded c.loop-difference.difference-iterator c.loop-difference.yielded_by
    c.next.result c.next.new.self c.in-Some.difference c.in-Some.is
    c.next.ensures.steps in
    let fault = err_from_is_err_and c.from_residual-in_err-renamed.result
    c.from_residual-in_err-renamed.ensures.1 in
    rw (fault.1, fault.2) (name_fault k.plan.now k.old.now k.new.now c.args.region.now
    c.args.client.now k.users.items old new
    (are_made k c.args.region.now c.args.client.now old new c.requires.comparison
    c.requires.region c.requires.client c.requires.made.old_list c.requires.made.new_list
    c.requires.made.names) k.steps c.in-Some.difference c.in_err-renamed.field-0.0
    (real_at old new c.deref.result.now c.deref-2.result.now all
    (length c.loop-difference.yielded) c.in-Some.difference c.deref.ensures.value
    c.deref-2.ensures.value c.in_ok-difference-items.ensures.real turn.0 turn.1)
    c.in_err-renamed.ensures.fault)

pub loop-difference-preserved : goal.loop-difference-preserved
loop-difference-preserved c =
    let k = c.args.comparison.now in
    let old = c.args.made.now.old.items in
    let new = c.args.made.now.new.items in
    let all = c.in_ok-difference-items.difference-items.items in
    let gives = c.into_iter-difference-iterator.ensures.into_iter_gives in
    let turn = YieldsList-turn (YieldsList-from_vec {s = c.into_iter-difference-iterator.result} all
    gives.0 (search rules))
    c.loop-difference.yielded c.loop-difference.difference-iterator c.loop-difference.yielded_by
    c.next.result c.next.new.self c.in-Some.difference c.in-Some.is
    c.next.ensures.steps in
    adding_more k.plan.now k.old.now k.new.now c.args.region.now c.args.client.now k.users.items old
    new (are_made k c.args.region.now c.args.client.now old new c.requires.comparison
    c.requires.region c.requires.client c.requires.made.old_list c.requires.made.new_list
    c.requires.made.names) c.args.found.now.items c.loop-difference.found.items
    c.add.new.found.items c.loop-difference.yielded c.in-Some.difference c.in_ok-renamed.renamed
    (real_at old new c.deref.result.now c.deref-2.result.now all
    (length c.loop-difference.yielded) c.in-Some.difference c.deref.ensures.value
    c.deref-2.ensures.value c.in_ok-difference-items.ensures.real turn.0 turn.1)
    c.in_ok-renamed.ensures.renamed (record { is = c.in_ok-add.ensures })
    c.loop-difference.invariant

pub returns-clause-shown : goal.returns-clause-shown
returns-clause-shown c =
    let k = c.args.comparison.now in
    let old = c.args.made.now.old.items in
    let new = c.args.made.now.new.items in
    let all = c.in_ok-difference-items.difference-items.items in
    let gives = c.into_iter-difference-iterator.ensures.into_iter_gives in
    let end = YieldsList-end (YieldsList-from_vec {s = c.into_iter-difference-iterator.result} all
    gives.0 (search rules))
    c.loop-difference.yielded c.loop-difference.difference-iterator c.loop-difference.yielded_by
    c.next.result c.next.new.self c.in-None.is
    c.next.ensures.steps in
    adding_all k.plan.now k.old.now k.new.now c.args.region.now c.args.client.now k.users.items old
    new (are_made k c.args.region.now c.args.client.now old new c.requires.comparison
    c.requires.region c.requires.client c.requires.made.old_list c.requires.made.new_list
    c.requires.made.names) c.args.found.now.items c.loop-difference.found.items all
    (subst (λ (rows : List Row). ShowsAll Own rows new all) c.deref.ensures.value
    (subst (λ (rows : List Row). ShowsAll Own c.deref.result.now rows all) c.deref-2.ensures.value
    c.in_ok-difference-items.ensures.every))
    (subst (λ (seen : List Difference). IsAdding k.plan.now k.old.now k.new.now c.args.region.now
    c.args.client.now old new c.args.found.now.items c.loop-difference.found.items seen)
    (all_seen c.loop-difference.yielded all end.0) c.loop-difference.invariant)
