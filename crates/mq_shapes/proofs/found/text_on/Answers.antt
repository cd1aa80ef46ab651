use Rattle.std.proofs.Common.{ap, ◌∙◌, ◌++◌, reverse}
use Rattle.std.proofs.lemmas.Result.{IfOk-weaker}
use Rattle.mq_unify.specs.Joined.{join_levels}
use Rattle.mq_shapes.proofs.PathLemmas.{joined_is, path_texts}
use Rattle.mq_shapes.proofs.found.text_on.Goals as goal

pub returns : goal.returns
returns c =
    IfOk-weaker c.join.result _ _ (λ text is. is ∙ joined_is c.deref-2.result.now
    ∙ ap join_levels (path_texts c.deref-2.result.now c.reverse.new.self.items
    c.args.path.now.levels.items c.deref-2.ensures.value (c.reverse.ensures.items
    ∙ ap reverse (c.in_ok-extend_from_slice.ensures.items
    ∙ (λ i. c.new-levels.ensures.items i ++ c.deref.ensures.value i))))) c.join.ensures.ok
