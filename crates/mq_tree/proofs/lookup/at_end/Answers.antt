use Rattle.std.proofs.Common.{◌++◌, map, Bor, ap, ◌∙◌, arith, append_assoc}
use Rattle.std.proofs.lemmas.Result.{on_ok_weaker}
use Rattle.std.specs.Map.{values_of}
use Rattle.mq_tree.specs.Nodes.{entries_of, own}
use Rattle.mq_tree.proofs.Turns.{as_found, end_found_some, end_found_none, end_met_some}
use Rattle.mq_tree.proofs.Turns.{end_met_none}
use Rattle.mq_tree.proofs.lookup.at_end.Goals as goal

pub returns-in-Some : goal.returns-in-Some
returns-in-Some g c =
    let node = c.args.node.now in
    let child = c.in-Some.child.now in
    let out = map (λ (x : Bor g.row.V.Denot). x.now) c.args.found.now.items in
    let given = c.add_value-in-Some in
    let end = end_met_some node c.in-Some.ensures.children (entries_of child)
    c.in-Some.ensures.found in
    record {
      found = as_found given.result _ _ _ _
          (end_found_some node c.in-Some.ensures.children child c.in-Some.ensures.found)
          (on_ok_weaker given.result (λ e. e
          ∙ ap (λ xs. xs ++ values_of (own child.0)) c.in_ok-add_value.ensures
          ∙ append_assoc out (values_of (own node.0)) (values_of (own child.0))) given.ensures);
      count = on_ok_weaker given.result (λ e. omega (arith, end, c.in-Some.ensures.count))
          given.ensures;
    }

pub returns-in-None : goal.returns-in-None
returns-in-None g c =
    let node = c.args.node.now in
    let end = end_met_none node c.in-None.ensures.children c.in-None.ensures.found in
    record {
      found = rw (end_found_none node c.in-None.ensures.children c.in-None.ensures.found)
          c.in_ok-add_value.ensures;
      count = omega (arith, end, c.in-None.ensures.count);
    }
