use Rattle.std.proofs.Common.{◌∙◌, List, [], ◌∷◌, ap, arith, map, max}
use Rattle.mq_ask_cases.specs.ChangeRows.{publishes_view, script_of, widest}
use Rattle.mq_ask_cases.specs.Deciding.{SideView, side_view}
use Rattle.mq_ask_cases.specs.declared.deciding.Side.{Side}
use Rattle.mq_ask_cases.proofs.RowLemmas.{row_places}
use Rattle.mq_ask_cases.proofs.change_rows.widened_by_row.Goals as goal

pub returns-in-Some : goal.returns-in-Some
returns-in-Some c =
    let row = c.args.row.now in
    let sides = c.widened_by_sides-width.ensures ∙ ap (λ (all : List Side).
    max c.args.width (widest (map (λ (s : SideView). s.place) (map side_view all))))
    c.deref.ensures.value in
    let places = row_places row (c.in-Some.file.now ∷ []) c.args.width _ sides
    (ap (λ of. script_of (publishes_view of)) c.in-Some.is) in
    omega (arith, c.widened.ensures)

pub returns-in-None : goal.returns-in-None
returns-in-None c =
    let row = c.args.row.now in
    let sides = c.widened_by_sides-width.ensures ∙ ap (λ (all : List Side).
    max c.args.width (widest (map (λ (s : SideView). s.place) (map side_view all))))
    c.deref.ensures.value in
    let places = row_places row [] c.args.width _ sides
    (ap (λ of. script_of (publishes_view of)) c.in-None.is) in
    omega arith
