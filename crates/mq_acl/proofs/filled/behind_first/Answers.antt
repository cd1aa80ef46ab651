use Rattle.std.proofs.Common.{◌∷◌, ◌∙◌, ◌-◌, ◌+◌, length, drop, ap, sym, arith}
use Rattle.std.proofs.lemmas.List.{take_all, length-drop}
use Rattle.std.specs.List.{before_first}
use Rattle.mq_topic.specs.Levels.{is_slash, levels, levels_left}
use Rattle.mq_acl.proofs.FilledLemmas.{first_level, only_level}
use Rattle.mq_acl.proofs.filled.behind_first.Goals as goal

pub returns-in_err-count : goal.returns-in_err-count
returns-in_err-count c =
    only_level c.args.name.now (sym c.slash_among.ensures ∙ c.in_err-count.was)
    ∙ ap (λ rest. before_first is_slash c.args.name.now ∷ levels_left rest)
    (sym c.from_residual.ensures)

pub returns : goal.returns
returns c =
    let name = c.args.name.now in
    let n = c.in_ok-count.count in
    let rest = drop (n + 1) name in
    first_level name n (sym c.slash_among.ensures ∙ c.in_ok-count.was)
    ∙ ap (λ t. before_first is_slash name ∷ levels t)
    (sym (take_all (length name - (n + 1)) rest (omega (arith, length-drop (n + 1) name))))
