use Rattle.std.proofs.Common.{◌≡◌, ◌<◌, length, take, get_or, subst, sym, arith, List, ap, ◌∙◌}
use Rattle.std.proofs.lemmas.Grind.{common_steps}
use Rattle.std.proofs.lemmas.Option.{gets}
use Rattle.mq_differences.specs.Questions.{IsSplit}
use Rattle.mq_differences.specs.declared.marks.Marked.{Marked}
use Rattle.mq_differences.proofs.MarkLemmas.{split_at}
use Rattle.mq_differences.proofs.gains.begin.Goals as goal

pub give_up-requires-clause-split : goal.give_up-requires-clause-split
give_up-requires-clause-split c =
    let rows = c.args.question.now.to.now.rows.items in
    let first = c.in-Some.first.now in
    let value = c.as_slice-rows.ensures.value in
    let is : first ≡ get_or c.as_slice-rows.result.now 0 first =
    grind (arith, common_steps, gets) in
    let low : 0 < length c.as_slice-rows.result.now = grind (arith, common_steps, gets) in
    subst (λ (ms : List Marked). IsSplit rows (take 0 ms) first.row.now) (sym value)
    (split_at rows 0 first (subst (λ (ms : List Marked). 0 < length ms) value low)
    (is ∙ ap (λ (ms : List Marked). get_or ms 0 first) value))
