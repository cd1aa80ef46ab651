use Rattle.std.proofs.Common.{◌∙◌, List, ap, arith, map}
use Rattle.std.proofs.lemmas.List.{map-append}
use Rattle.mq_ask_cases.specs.ChangeRows.{change_view, access_of}
use Rattle.mq_ask_cases.specs.declared.change_rows.ChangeRow.{ChangeRow}
use Rattle.mq_ask_cases.proofs.RowLemmas.{widened_more}
use Rattle.mq_print.specs.Columns.{width_of}
use Rattle.mq_ask_cases.proofs.change_rows.access_width.Goals as goal

pub loop-row-preserved : goal.loop-row-preserved
loop-row-preserved c =
    let more = widened_more (λ (rows : List ChangeRow). map access_of (map change_view rows))
    c.args.rows.now c.loop-row.row-index c.row-item.result 0 c.loop-row.width
    (width_of c.access_words.result.now) c.widened-width.result
    (λ xs ys. ap (map access_of) (map-append change_view xs ys)
    ∙ map-append access_of (map change_view xs) (map change_view ys))
    c.loop-row-test.true c.row-item.is (omega (arith, c.loop-row.invariant))
    (omega (arith, ap width_of c.access_words.ensures)) c.widened-width.ensures in
    omega arith
