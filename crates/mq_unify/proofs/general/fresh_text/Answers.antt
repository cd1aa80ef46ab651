use Rattle.std.proofs.Common.{ap, arith, ◌∙◌, ◌+◌, ◌++◌}
use Rattle.std.proofs.lemmas.Result.{IfOk-weaker}
use Rattle.std.specs.Fmt.{decimal}
use Rattle.mq_unify.proofs.UnlikeLemmas.{decimal_is}
use Rattle.mq_unify.proofs.general.fresh_text.Goals as goal

pub returns : goal.returns
returns c = IfOk-weaker c.format.result _ _
    (λ text e. e ∙ ap (λ n. c.args.prefix.now ++ decimal (n + 1)) c.from.ensures
    ∙ ap (λ d. c.args.prefix.now ++ d) (decimal_is (c.args.number + 1) (omega arith) (omega arith)))
    c.format.ensures.ok
