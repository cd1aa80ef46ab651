use Rattle.std.proofs.Common.{◌≡◌, ◌-◌, List, length, get_or, take, drop, length-drop, ap, sym, ◌∙◌, arith}
use Rattle.std.proofs.lemmas.Grind.{common_steps}
use Rattle.std.proofs.lemmas.List.{take_all}
use Rattle.std.proofs.lemmas.Option.{gets}
use Rattle.std.specs.List.{list_any}
use Rattle.mq_differences.specs.Differences.{is_like}
use Rattle.mq_differences.specs.declared.difference.Difference.{Difference}
use Rattle.mq_differences.proofs.LastLemmas.{like_behind, like_none}
use Rattle.mq_differences.proofs.report.Report.same_class.Goals as goal

pub returns-in-Equal : goal.returns-in-Equal
returns-in-Equal c =
    let shown = c.args.self.now.differences.items in
    let last = c.args.self.now.last in
    let all = c.as_slice-all.result.now in
    let is : c.in-Some.last.now ≡ get_or all last c.in-Some.last.now =
    grind (arith, common_steps, gets) in
    let rest : take (length all - last) (drop last all) ≡ drop last shown =
    take_all (length all - last) (drop last all) (omega (arith, length-drop last all))
    ∙ ap (drop last) c.as_slice-all.ensures.value in
    ap (list_any (λ other. is_like other c.args.difference.now)) rest
    ∙ like_behind shown last c.in-Some.last.now c.args.difference.now c.args.self.now.is_last
    (is ∙ ap (λ (ds : List Difference). get_or ds last c.in-Some.last.now)
    c.as_slice-all.ensures.value) (sym c.in-Equal.ensures)

pub returns-in-Greater : goal.returns-in-Greater
returns-in-Greater c =
    let shown = c.args.self.now.differences.items in
    let is : c.in-Some.last.now
    ≡ get_or c.as_slice-all.result.now c.args.self.now.last c.in-Some.last.now =
    grind (arith, common_steps, gets) in
    sym (like_none shown c.args.self.now.last c.in-Some.last.now c.args.difference.now
    c.args.self.now.is_last
    (is ∙ ap (λ (ds : List Difference). get_or ds c.args.self.now.last c.in-Some.last.now)
    c.as_slice-all.ensures.value) (sym c.in-Greater.ensures))
