use Rattle.std.proofs.Common.{◌≡◌, ◌+◌, [], ap, ◌∙◌, arith}
use Rattle.std.specs.List.{sum_by}
use Rattle.std.specs.Map.{values_of}
use Rattle.std.proofs.lemmas.List.Sums.{sum_by-cons}
use Rattle.std.proofs.lemmas.Map.Iter.{rest_more, rest_all}
use Rattle.mq_topic.specs.Prefixes.{capped}
use Rattle.mq_tree.specs.Nodes.{NodeView, own, weight}
use Rattle.mq_tree.proofs.Counts.{held, held-node}
use Rattle.mq_tree.proofs.Filters.{all_weigh_less, next_weighs_less}
use Rattle.mq_tree.proofs.tree.node.Node.+total.Goals as goal

pub loop-child-init : goal.loop-child-init
loop-child-init g t c =
    let node = c.args.self.now in
    let start = c.into_iter-child-iterator.ensures.into_iter_gives
    ∙ c.children-child-items.ensures.all in
    let less = all_weigh_less node _ start c.children-child-items.ensures.children in
    let count_of = g.V.Counted.count_of in
    let mine = c.own_count-total.ensures
    ∙ ap (λ (n : NodeView g.row.V.Denot). capped (held count_of (own n.0))) c.self.view_is in
    record {
      count = ap (λ cs. capped (c.own_count-total.result
          + sum_by (held count_of) (values_of cs))) start
          ∙ held-node count_of node c.own_count-total.result mine;
      fits = omega arith;
      low = less.0;
      live = less.1;
    }

pub total-requires : goal.total-requires
total-requires g t c =
    let e = rest_more (λ x. x) _ _ _ c.in-Some.child c.in-Some.is c.next.ensures.steps in
    let less = next_weighs_less _ _ _ _ e c.loop-child.invariant.live c.loop-child.invariant.low in
    λ κs x. (omega (arith, less.0, ap weight c.node.ensures), x)

pub loop-child-preserved : goal.loop-child-preserved
loop-child-preserved g t c =
    let e = rest_more (λ x. x) _ _ _ c.in-Some.child c.in-Some.is c.next.ensures.steps in
    let less = next_weighs_less _ _ _ _ e c.loop-child.invariant.live c.loop-child.invariant.low in
    let count = rw e at c.loop-child.invariant.count in
    let fits = c.loop-child.invariant.fits in
    record {
      count = omega (
        arith,
        count,
        sum_by-cons (held g.V.Counted.count_of) c.in-Some.child.1 (values_of c.next.new.self),
        ap (λ es. capped (held g.V.Counted.count_of es)) c.node.ensures,
      );
      fits = omega arith;
      low = less.1;
      live = less.2;
    }

pub returns : goal.returns
returns g t c =
    let e : c.loop-child.child-iterator ≡ [] =
    rest_all (λ x. x) _ _ _ c.in-None.is c.next.ensures.steps in
    let h = rw e at c.loop-child.invariant.count in
    let fits = c.loop-child.invariant.fits in
    omega arith
