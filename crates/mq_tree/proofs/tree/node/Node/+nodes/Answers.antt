use Rattle.std.proofs.Common.{◌≡◌, [], length, ap, ◌∙◌, arith}
use Rattle.std.specs.Map.{keys_of}
use Rattle.std.proofs.lemmas.Map.Iter.{rest_more, rest_all}
use Rattle.mq_tree.specs.Below.{tally}
use Rattle.mq_tree.specs.Nodes.{weight}
use Rattle.mq_topic.specs.Prefixes.{prefixes}
use Rattle.mq_tree.proofs.Filters.{all_met, all_weigh_less, next_weighs_less}
use Rattle.mq_tree.proofs.tree.node.Node.+nodes.Goals as goal

pub loop-child-init : goal.loop-child-init
loop-child-init g t c =
    let node = c.args.self.now in
    let start = c.into_iter-child-iterator.ensures.into_iter_gives
    ∙ c.children-child-items.ensures.all in
    let less = all_weigh_less node _ start c.children-child-items.ensures.children in
    record {
      count = omega (
        arith,
        ap (tally (λ child. length (prefixes (keys_of child.1)))) start,
        all_met node c.children-child-items.ensures.children,
      );
      fits = omega arith;
      low = less.0;
      live = less.1;
    }

pub nodes-requires : goal.nodes-requires
nodes-requires g t c =
    let e = rest_more (λ x. x) _ _ _ c.in-Some.child c.in-Some.is c.next.ensures.steps in
    let less = next_weighs_less _ _ _ _ e c.loop-child.invariant.live c.loop-child.invariant.low in
    λ κs x. (omega (arith, less.0, ap weight c.node.ensures), x)

pub loop-child-preserved : goal.loop-child-preserved
loop-child-preserved g t c =
    let e = rest_more (λ x. x) _ _ _ c.in-Some.child c.in-Some.is c.next.ensures.steps in
    let less = next_weighs_less _ _ _ _ e c.loop-child.invariant.live c.loop-child.invariant.low in
    let count = rw e at c.loop-child.invariant.count in
    let fits = c.loop-child.invariant.fits in
    record {
      count = omega (
        arith,
        count,
        ap (λ es. length (prefixes (keys_of es))) c.node.ensures,
      );
      fits = omega arith;
      low = less.1;
      live = less.2;
    }

pub returns : goal.returns
returns g t c =
    let e : c.loop-child.child-iterator ≡ [] =
    rest_all (λ x. x) _ _ _ c.in-None.is c.next.ensures.steps in
    let h = rw e at c.loop-child.invariant.count in
    let fits = c.loop-child.invariant.fits in
    omega arith
