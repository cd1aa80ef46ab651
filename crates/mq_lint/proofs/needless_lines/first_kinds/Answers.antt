use Rattle.std.proofs.Common.{◌++◌, ◌∷◌, [], ap, subst, sym, take, ◌∙◌}
use Rattle.std.proofs.lemmas.List.{take_more}
use Rattle.mq_acl.specs.declared.row.Row.{Row}
use Rattle.mq_lint.specs.Kinds.{IsFirst}
use Rattle.mq_lint.specs.Repeats.{AreSeen}
use Rattle.mq_lint.proofs.KindLemmas.{one_more, stop_in}
use Rattle.mq_lint.proofs.needless_lines.first_kinds.Goals as goal

pub first_kind-requires-clause-line : goal.first_kind-requires-clause-line
first_kind-requires-clause-line c = c.in_ok-line.ensures.line c.loop-place.invariant.seen

pub loop-place-preserved : goal.loop-place-preserved
loop-place-preserved c = record {
  kinds = one_more (IsFirst c.args.lint.now.asked.rules c.args.lint.now.rows.now)
      c.args.lint.now.rows.now c.loop-place.place c.loop-place.kinds.items
      c.add_kind.new.kinds.items c.row-item.result c.in-Ok.kind c.in_ok-add_kind.ensures
      c.loop-place-test.true c.row-item.is c.in-Ok.ensures.kind c.loop-place.invariant.kinds;
  seen = subst (λ rows. AreSeen rows c.repeated.new.self)
      (sym (take_more c.args.lint.now.rows.now c.loop-place.place c.row-item.result
      c.loop-place-test.true
      ∙ ap (λ (r : Row). take c.loop-place.place c.args.lint.now.rows.now ++ r ∷ [])
      (sym c.row-item.is)))
      (c.in_ok-line.ensures.seen c.loop-place.invariant.seen);
}

pub returns-in-Err-clause-fault : goal.returns-in-Err-clause-fault
returns-in-Err-clause-fault c =
    stop_in c.args.lint.now.rows.now c.args.lint.now.limited c.loop-place.place c.row-item.result
    c.in-Err.fault c.loop-place-test.true c.row-item.is c.in-Err.ensures.fault
