use Rattle.std.proofs.Common.{◌∙◌, List, ap, append-nil, arith, flat_map, map, sym}
use Rattle.std.proofs.lemmas.List.{map-append}
use Rattle.std.proofs.lemmas.List.Concat.{flat_map-append}
use Rattle.mq_ask_cases.specs.ChangeRows.{change_view, places_of, widest}
use Rattle.mq_ask_cases.specs.declared.change_rows.ChangeRow.{ChangeRow}
use Rattle.mq_ask_cases.proofs.RowLemmas.{widened_more}
use Rattle.mq_ask_cases.proofs.change_rows.place_width.Goals as goal

pub loop-row-preserved : goal.loop-row-preserved
loop-row-preserved c =
    let row = change_view c.row-item.result in
    let more = widened_more (λ (rows : List ChangeRow). flat_map places_of (map change_view rows))
    c.args.rows.now c.loop-row.row-index c.row-item.result 0 c.loop-row.width
    (widest (places_of row)) c.widened_by_row-width.result
    (λ xs ys. ap (flat_map places_of) (map-append change_view xs ys)
    ∙ flat_map-append places_of (map change_view xs) (map change_view ys))
    c.loop-row-test.true c.row-item.is (omega (arith, c.loop-row.invariant))
    (ap widest (sym (append-nil (places_of row)))) c.widened_by_row-width.ensures in
    omega arith
