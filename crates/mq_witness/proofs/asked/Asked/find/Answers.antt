use Rattle.std.proofs.lemmas.Result.{IfOk-weaker}
use Rattle.mq_witness.specs.Rows.{lent_rows}
use Rattle.mq_witness.proofs.ShowLemmas.{neither_kind}
use Rattle.mq_witness.proofs.TryLemmas.{none_at, none_weaker}
use Rattle.mq_witness.proofs.asked.Asked.find.Goals as goal

pub returns-clause-none : goal.returns-clause-none
returns-clause-none c =
    IfOk-weaker c.find_in-2.result _ _ (λ found. none_weaker found
    (neither_kind c.args.self.now c.args.clients (lent_rows c.args.must.now)
    (lent_rows c.args.cover.now)
    (none_at c.in_ok-found.field-0 _ c.in_default.is c.in_ok-found.ensures.none)))
    c.find_in-2.ensures.none
