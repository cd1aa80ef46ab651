use Rattle.std.proofs.Common.{◌≡◌, ◌+◌, [], length, Option, Some, None, Bor, is_some, refl, ap, ◌∙◌}
use Rattle.std.proofs.Common.{arith}
use mir.Val.{bool_byte}
use Rattle.std.specs.List.{sum_by}
use Rattle.std.specs.Map.{values_of}
use Rattle.std.specs.Option.{option_copied}
use Rattle.std.proofs.lemmas.List.Sums.{sum_by-cons}
use Rattle.std.proofs.lemmas.Map.Iter.{rest_more, rest_all}
use Rattle.mq_topic.specs.Prefixes.{capped}
use Rattle.mq_tree.specs.Nodes.{weight}
use Rattle.mq_tree.proofs.Counts.{length-own}
use Rattle.mq_tree.proofs.Filters.{all_weigh_less, next_weighs_less}
use Rattle.mq_tree.proofs.tree.node.Node.+len.Goals as goal

-- a copy is there just where the reference is
is_some-copied : {V : Type 0} (o : Option (Bor V)) → is_some o ≡ is_some (option_copied o)
is_some-copied None = refl
is_some-copied (Some v) = refl

pub loop-child-init : goal.loop-child-init
loop-child-init g t c =
    let node = c.args.self.now in
    let start = c.into_iter-child-iterator.ensures.into_iter_gives
    ∙ c.children-child-items.ensures.all in
    let less = all_weigh_less node _ start c.children-child-items.ensures.children in
    let own = c.from-total.ensures ∙ ap bool_byte (c.is_some.ensures
    ∙ is_some-copied c.value.result ∙ ap is_some c.value.ensures) in
    record {
      count = ap capped (ap (λ cs. c.from-total.result + sum_by length (values_of cs)) start
          ∙ length-own node.0 node.1 c.from-total.result own);
      fits = omega arith;
      low = less.0;
      live = less.1;
    }

pub len-requires : goal.len-requires
len-requires g t c =
    let e = rest_more (λ x. x) _ _ _ c.in-Some.child c.in-Some.is c.next.ensures.steps in
    let less = next_weighs_less _ _ _ _ e c.loop-child.invariant.live c.loop-child.invariant.low in
    λ κs x. (omega (arith, less.0, ap weight c.node.ensures), x)

pub loop-child-preserved : goal.loop-child-preserved
loop-child-preserved g t c =
    let e = rest_more (λ x. x) _ _ _ c.in-Some.child c.in-Some.is c.next.ensures.steps in
    let less = next_weighs_less _ _ _ _ e c.loop-child.invariant.live c.loop-child.invariant.low in
    let count = rw e at c.loop-child.invariant.count in
    let fits = c.loop-child.invariant.fits in
    record {
      count = omega (
        arith,
        count,
        sum_by-cons length c.in-Some.child.1 (values_of c.next.new.self),
        ap (λ es. capped (length es)) c.node.ensures,
      );
      fits = omega arith;
      low = less.1;
      live = less.2;
    }

pub returns : goal.returns
returns g t c =
    let e : c.loop-child.child-iterator ≡ [] =
    rest_all (λ x. x) _ _ _ c.in-None.is c.next.ensures.steps in
    let h = rw e at c.loop-child.invariant.count in
    let fits = c.loop-child.invariant.fits in
    omega arith
