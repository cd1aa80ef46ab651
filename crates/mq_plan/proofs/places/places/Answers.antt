use Rattle.std.proofs.Common.{◌≡◌, ◌==◌, ◌+◌, List, ℕ, [], cond, ap, arith, length, refl, subst, sym, ◌∙◌}
use Rattle.std.proofs.lemmas.List.Splits.{length-slice_split}
use Rattle.std.proofs.lemmas.List.Sums.{count_by-le-length}
use Rattle.mq_topic.specs.Levels.{levels, levels_left}
use Rattle.mq_plan.proofs.PlaceLemmas.{ArePlaced, placed_all, placed_few, placed_on}
use Rattle.mq_plan.proofs.places.places.Goals as goal

pub loop-rest-init : goal.loop-rest-init
loop-rest-init c =
    record { done = []; parts = refl; count = refl; placed = c.new-all.ensures.items }

pub loop-rest-preserved-then-eq : goal.loop-rest-preserved-then-eq
loop-rest-preserved-then-eq c =
    let left = levels c.args.left.now in
    let right = levels c.args.right.now in
    let after = levels_left c.split_first.result.1 in
    let level = c.split_first.result.0.now in
    let before = c.loop-rest.before in
    subst (λ all. ArePlaced left right after all (before + 1)) (sym {A = List ℕ} c.in_ok-push.ensures.items)
    (placed_on left right (levels_left c.loop-rest.rest) after level c.loop-rest.all.items before
    c.place_of.result (before + 1) c.loop-rest.invariant
    (ap levels_left c.in-Some.is ∙ c.split_first.ensures) c.place_of.ensures
    (ap (λ b. before + cond b 1 0) (sym c.if-eq.true ∙ c.eq.ensures)))

pub loop-rest-preserved : goal.loop-rest-preserved
loop-rest-preserved c =
    let left = levels c.args.left.now in
    let right = levels c.args.right.now in
    let after = levels_left c.split_first.result.1 in
    let level = c.split_first.result.0.now in
    let before = c.loop-rest.before in
    let same : before ≡ before + 0 = omega arith in
    subst (λ all. ArePlaced left right after all before) (sym {A = List ℕ} c.in_ok-push.ensures.items)
    (placed_on left right (levels_left c.loop-rest.rest) after level c.loop-rest.all.items before
    c.place_of.result before c.loop-rest.invariant
    (ap levels_left c.in-Some.is ∙ c.split_first.ensures) c.place_of.ensures
    (same ∙ ap (λ b. before + cond b 1 0) (sym c.if-eq.false ∙ c.eq.ensures)))

pub returns : goal.returns
returns c = placed_all (levels c.args.left.now) (levels c.args.right.now)
    (levels_left c.loop-rest.rest) c.loop-rest.all.items c.loop-rest.before c.loop-rest.invariant
    (ap levels_left c.in_default.is)

pub overflow_add-before : goal.overflow_add-before
overflow_add-before c =
    let text = c.args.right.now in
    let left = ap length c.split_first.ensures in
    let some = ap (λ r. length (levels_left r)) c.in-Some.is in
    let few = placed_few (levels c.args.left.now) (levels text) (levels_left c.loop-rest.rest)
    c.loop-rest.all.items c.loop-rest.before c.loop-rest.invariant in
    omega (
      arith,
      length-slice_split (λ b. b == 47) text,
      count_by-le-length (λ b. b == 47) text,
      few,
      left,
      some,
    )
