use Rattle.std.proofs.Common.{◌≡◌, ◌<◌, ◌∙◌, sym, length, get_or, arith}
use Rattle.std.proofs.lemmas.Grind.{common_steps}
use Rattle.std.proofs.lemmas.Option.{gets}
use Rattle.mq_acl.specs.Views.{row_view}
use Rattle.mq_differences.proofs.MarkLemmas.{twin_at}
use Rattle.mq_differences.proofs.marks.has_twin_at.Goals as goal

pub returns-in-loop-place : goal.returns-in-loop-place
returns-in-loop-place c = λ e.
    let i = get_or c.args.places.now c.loop-place.place-index 0 in
    let low : i < length c.args.rows.now = grind (arith, common_steps, gets) in
    let is : c.in-Some.other.now ≡ get_or c.args.rows.now i c.in-Some.other.now =
    grind (arith, common_steps, gets) in
    twin_at c.args.rows.now i c.in-Some.other.now (row_view c.args.row.now) low is
    (sym c.does_as_much.ensures ∙ c.if-does_as_much.true)
