use Rattle.std.proofs.Common.{ap, refl, sym, ◌∙◌}
use Rattle.mq_witness.specs.Literals.{is_among}
use Rattle.mq_lint.proofs.ClassLemmas.{lint_is}
use Rattle.mq_lint.proofs.linted.Lint.of.Goals as goal

pub invariant_of-result : goal.invariant_of-result
invariant_of-result c = record {
  is_lint = lint_is c.args.rules c.args.rows.now c.in_ok-one_list.field-0.items c.args.rows c.in-Ok.asked
      c.in_ok-by_owner.by_owner c.deref.result.now c.in_ok-classes.classes.items
      c.in_ok-one_list.ensures refl c.in-Ok.ensures.rows c.in_ok-by_owner.ensures
      c.in_ok-classes.ensures
      (λ user. ap (is_among user) c.deref.ensures.value ∙ c.in_ok-users.ensures.users user)
      (sym c.in-Ok.ensures.rules);
}
