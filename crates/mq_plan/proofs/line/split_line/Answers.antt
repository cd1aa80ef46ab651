use Rattle.std.proofs.Common.{lit<, sym, ◌∙◌, ◌==◌, Some, None, ◌∷◌}
use Rattle.std.proofs.lemmas.Str.Pattern.{split_once_first}
use Rattle.std.proofs.lemmas.List.Splits.{slice_split_first}
use Rattle.mq_topic.proofs.LevelLemmas.{slice_split_whole}
use Rattle.mq_acl.specs.Lines.{lines}
use Rattle.mq_plan.proofs.line.split_line.Goals as goal

pub returns-in-Some : goal.returns-in-Some
returns-in-Some c =
    let parts = split_once_first 10 c.args.text.now (Some (c.in-Some.line, c.in-Some.rest))
    c.in-Some.ensures.cases (lit< tt) in
    slice_split_first (λ b. b == 10) c.args.text.now 0 parts.0
    ∙ (λ i. sym parts.1 i ∷ lines (sym parts.2 i))

pub returns-in-None : goal.returns-in-None
returns-in-None c = slice_split_whole (λ b. b == 10) c.args.text.now
    (split_once_first 10 c.args.text.now None c.in-None.ensures.cases (lit< tt))
