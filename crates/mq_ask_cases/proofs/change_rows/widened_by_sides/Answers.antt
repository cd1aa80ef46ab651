use Rattle.std.proofs.Common.{◌∙◌, List, ap, arith, map}
use Rattle.std.proofs.lemmas.List.{map-append}
use Rattle.mq_ask_cases.specs.Deciding.{SideView, side_view}
use Rattle.mq_ask_cases.specs.declared.deciding.Side.{Side}
use Rattle.mq_ask_cases.proofs.RowLemmas.{widened_more}
use Rattle.mq_print.specs.Columns.{width_of}
use Rattle.mq_ask_cases.proofs.change_rows.widened_by_sides.Goals as goal

pub loop-side-preserved : goal.loop-side-preserved
loop-side-preserved c =
    let place = λ (side : SideView). side.place in
    widened_more (λ (sides : List Side). map place (map side_view sides))
    c.args.sides.now c.loop-side.side-index c.side-item.result c.args.width c.loop-side.width
    (width_of c.as_str.result.now) c.widened-width.result
    (λ xs ys. ap (map place) (map-append side_view xs ys)
    ∙ map-append place (map side_view xs) (map side_view ys))
    c.loop-side-test.true c.side-item.is c.loop-side.invariant
    (omega (arith, ap width_of c.as_str.ensures.value)) c.widened-width.ensures
