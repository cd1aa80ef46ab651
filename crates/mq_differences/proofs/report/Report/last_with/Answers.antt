use Rattle.std.proofs.Common.{◌≡◌, ◌<◌, ◌≤◌, List, ◌++◌, ◌∷◌, [], length, get_or, ap, sym, ◌∙◌, subst, arith}
use Rattle.std.proofs.lemmas.Grind.{common_steps}
use Rattle.std.proofs.lemmas.Option.{gets}
use Rattle.std.specs.Ordering.{is_gt}
use Rattle.mq_differences.specs.Reports.{IsLast}
use Rattle.mq_differences.specs.declared.difference.Difference.{Difference}
use Rattle.mq_differences.proofs.LastLemmas.{last_begun, last_kept, last_moved, not_greater}
use Rattle.mq_differences.proofs.report.Report.last_with.Goals as goal

pub returns-in_default : goal.returns-in_default
returns-in_default c =
    let shown = c.args.self.now.differences.items in
    let end : length c.deref.result.now ≤ c.args.self.now.last = grind (arith, common_steps, gets) in
    last_begun shown c.args.self.now.last c.args.difference.now c.args.self.now.is_last
    (subst (λ (ds : List Difference). length ds ≤ c.args.self.now.last) c.deref.ensures.value end)

pub returns-in-Greater : goal.returns-in-Greater
returns-in-Greater c =
    let shown = c.args.self.now.differences.items in
    let is : c.in-Some.last.now ≡ get_or c.deref.result.now c.args.self.now.last c.in-Some.last.now =
    grind (arith, common_steps, gets) in
    let n : length shown ≡ c.len.result =
    ap (λ (ds : List Difference). length ds) (sym c.deref.ensures.value) ∙ omega arith in
    subst (IsLast (shown ++ c.args.difference.now ∷ [])) n
    (last_moved shown c.args.self.now.last c.in-Some.last.now c.args.difference.now
    c.args.self.now.is_last
    (is ∙ ap (λ (ds : List Difference). get_or ds c.args.self.now.last c.in-Some.last.now)
    c.deref.ensures.value) (sym c.in-Greater.ensures))

pub returns-in_default-order : goal.returns-in_default-order
returns-in_default-order c =
    let shown = c.args.self.now.differences.items in
    let is : c.in-Some.last.now ≡ get_or c.deref.result.now c.args.self.now.last c.in-Some.last.now =
    grind (arith, common_steps, gets) in
    let low : c.args.self.now.last < length c.deref.result.now =
    grind (arith, common_steps, gets) in
    last_kept shown c.args.self.now.last c.in-Some.last.now c.args.difference.now
    c.args.self.now.is_last
    (subst (λ (ds : List Difference). c.args.self.now.last < length ds) c.deref.ensures.value low)
    (is ∙ ap (λ (ds : List Difference). get_or ds c.args.self.now.last c.in-Some.last.now)
    c.deref.ensures.value)
    (ap is_gt (sym c.order.ensures) ∙ not_greater c.order.result c.in_default-order.not-Greater)
