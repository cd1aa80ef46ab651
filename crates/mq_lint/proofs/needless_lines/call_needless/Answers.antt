use Rattle.std.proofs.Common.{◌≡◌, ◌<◌, ◌+◌, ◌-◌, length, get_or, refl, subst, ◌∙◌, arith}
use Rattle.mq_witness.specs.Rows.{lent_rows}
use Rattle.mq_lint.specs.Kinds.{CalledFrom}
use Rattle.mq_lint.proofs.BesideLemmas.{begun, one_back}
use Rattle.mq_lint.proofs.KindLemmas.{same_item, stop_in}
use Rattle.mq_lint.proofs.needless_lines.call_needless.Goals as goal

pub loop-place-init : goal.loop-place-init
loop-place-init c = record {
  rows = c.requires.rows;
  low = omega arith;
  from = begun c.args.lint.now.asked.rules c.args.lint.now.rows.now (length c.args.lint.now.rows.now)
      c.args.kinds.now.items (lent_rows c.args.none.called.items) c.requires.none c.requires.count
      refl c.requires.each;
}

pub returns-in-Err-clause-fault : goal.returns-in-Err-clause-fault
returns-in-Err-clause-fault c =
    let rows = c.args.lint.now.rows.now in
    let place = c.loop-place.place - 1 in
    let row = get_or c.args.lint.now.rows.now (c.loop-place.place - 1) c.index-lint-place.result in
    let low : c.loop-place.place - 1 < length c.args.lint.now.rows.now = omega arith in
    stop_in rows c.args.lint.now.limited place row c.in-Err.fault low
    (same_item rows place c.index-lint-place.result row low) c.in-Err.ensures.fault

pub loop-place-preserved : goal.loop-place-preserved
loop-place-preserved c =
    let rows = c.args.lint.now.rows.now in
    let place = c.loop-place.place - 1 in
    let row = get_or c.args.lint.now.rows.now (c.loop-place.place - 1) c.index-lint-place.result in
    let low : c.loop-place.place - 1 < length c.args.lint.now.rows.now = omega arith in
    let back : c.loop-place.place ≡ c.loop-place.place - 1 + 1 = omega arith in
    record {
      rows = c.in_ok-called.ensures.rows ∙ c.loop-place.invariant.rows;
      low = omega arith;
      from = one_back c.args.lint.now.asked.rules rows place
          c.loop-place.kinds.items _ (lent_rows c.loop-place.called.called.items)
          (lent_rows c.in_ok-called.called.called.items) row c.in-Ok.kind low
          (same_item rows place c.index-lint-place.result row low) refl c.in_ok-called.ensures.called
          c.in-Ok.ensures.kind
          (subst (λ n. CalledFrom c.args.lint.now.asked.rules rows n
          c.loop-place.kinds.items (lent_rows c.loop-place.called.called.items)) back
          c.loop-place.invariant.from);
    }
