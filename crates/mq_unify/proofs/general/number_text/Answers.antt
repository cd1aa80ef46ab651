use Rattle.std.proofs.Common.{◌≡◌, ◌∙◌, true, ap, refl, subst}
use Rattle.mq_unify.specs.Bindings.{level_fits, text_of}
use Rattle.mq_unify.specs.Unlike.{fresh_text}
use Rattle.mq_unify.specs.declared.binding.Level.TheVariants.{Free}
use Rattle.mq_unify.proofs.MostGeneral.{bound_fits}
use Rattle.mq_unify.proofs.general.number_text.Goals as goal

pub returns-clause-passes : goal.returns-clause-passes
returns-clause-passes c = λ test fresh fit.
    let prefix = c.args.prefix.now in
    let bs = c.args.bindings.now.bindings.items in
    let is = c.level-level.ensures in
    subst (λ l. test (text_of (fresh_text prefix) l) ≡ true) is
    (c.level_text.ensures.passes test fresh
    (ap (level_fits test) is ∙ bound_fits test bs (Free c.args.number) fit refl))
