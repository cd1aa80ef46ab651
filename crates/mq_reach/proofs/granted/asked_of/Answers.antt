use Rattle.std.proofs.Common.{◌≡◌, None, IfOk, All, Bor, List, subst, lit<}
use Rattle.std.proofs.lemmas.Result.{IfOk-weaker}
use Rattle.mq_acl.specs.declared.row.Row.{Row}
use Rattle.mq_witness.specs.Limits.{long_line}
use Rattle.mq_reach.proofs.granted.asked_of.Goals as goal

pub returns-clause-short : goal.returns-clause-short
returns-clause-short c =
    IfOk-weaker c.of.result _ _ (λ asked all.
    subst (All (λ (list : Bor (List Row)). long_line list.now ≡ None)) c.in-Ok.ensures.items all
    0 c.args.rows (lit< tt)) c.of.ensures.short
