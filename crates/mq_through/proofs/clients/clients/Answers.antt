use Rattle.std.proofs.Common.{false, string_bytes, subst, sym, true}
use Rattle.mq_through.specs.Clients.{AreFresh, IsFresh}
use Rattle.mq_through.specs.declared.fresh.Fresh.TheVariants.{Any, Each}
use Rattle.mq_through.proofs.FoundLemmas.{stand_for_all}
use Rattle.mq_through.proofs.TriedLemmas.{AreEach, any_tried, each_clients, each_tried}
use Rattle.mq_through.proofs.clients.clients.Goals as goal

pub returns-in_ok-clients-in-Any-clause-stand : goal.returns-in_ok-clients-in-Any-clause-stand
returns-in_ok-clients-in-Any-clause-stand c =
    let k = c.args.comparison.now in
    let clients = c.in_ok-clients-in-Any.clients.items in
    let are : AreFresh k (Any c.in-Any.any) = subst (AreFresh k) c.in-Any.is c.requires.fresh in
    stand_for_all k c.requires.comparison clients
    (any_tried k clients c.as_str.result (string_bytes c.in-Any.any)
    c.in_ok-clients-in-Any.ensures.items c.as_str.ensures.value are.0 are.1)

are_each : (c : goal.In_ok-add_named-in-Each)
    → AreEach c.args.comparison.now c.as_str-in-Each.result c.as_str-in-Each-2.result
are_each c =
    let k = c.args.comparison.now in
    let are : AreFresh k (Each c.in-Each.plain c.in-Each.dollar) =
    subst (AreFresh k) c.in-Each.is c.requires.fresh in
    record {
      asks = are.0;
      plain_is = subst (IsFresh k false) (sym c.as_str-in-Each.ensures.value) are.1;
      dollar_is = subst (IsFresh k true) (sym c.as_str-in-Each-2.ensures.value) are.2;
    }

pub returns-in_ok-add_named-in-Each-clause-clients : goal.returns-in_ok-add_named-in-Each-clause-clients
returns-in_ok-add_named-in-Each-clause-clients c =
    c.in_ok-add_named-in-Each.ensures.clients
    (each_clients c.args.comparison.now c.as_str-in-Each.result c.as_str-in-Each-2.result
    c.in_ok-clients-in-Each.clients.items c.in_ok-clients-in-Each.ensures.items (are_each c))

pub returns-in_ok-add_named-in-Each-clause-stand : goal.returns-in_ok-add_named-in-Each-clause-stand
returns-in_ok-add_named-in-Each-clause-stand c =
    let k = c.args.comparison.now in
    let clients = c.add_named.new.clients.items in
    stand_for_all k c.requires.comparison clients
    (each_tried k c.as_str-in-Each.result c.as_str-in-Each-2.result
    c.in_ok-clients-in-Each.clients.items clients c.args.plan.now c.args.old.now c.args.new.now
    c.in_ok-clients-in-Each.ensures.items (are_each c) c.requires.plan c.requires.old c.requires.new
    c.in_ok-add_named-in-Each.ensures.among)
