use Rattle.std.proofs.Common.{◌∷◌, [], ◌++◌, ap, sym, ◌∙◌, append_assoc, ◌+◌}
use Rattle.mq_unify.specs.Terms.{variables}
use Rattle.mq_unify.specs.declared.term.Term.TheVariants.{Variable}
use Rattle.mq_unify.proofs.TermLemmas.{variables-snoc}
use Rattle.mq_unify.proofs.terms.add_variables.Goals as goal

pub loop-place-preserved : goal.loop-place-preserved
loop-place-preserved c =
    c.in_ok-push.ensures.items
    ∙ (λ i. c.loop-place.terms.items
    ++ Variable (c.from.ensures i + c.from-in-loop-place.ensures i) ∷ [])
    ∙ ap (λ l. l ++ Variable (c.args.first + c.loop-place.place) ∷ []) c.loop-place.invariant
    ∙ append_assoc c.args.terms.now.items (variables c.args.first c.loop-place.place)
    (Variable (c.args.first + c.loop-place.place) ∷ [])
    ∙ ap (λ l. c.args.terms.now.items ++ l) (sym (variables-snoc c.args.first c.loop-place.place))
