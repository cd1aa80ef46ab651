use Rattle.std.proofs.Common.{◌≡◌, string_bytes, take}
use Rattle.mq_ask_plan.specs.Objects.{renamed_texts}
use Rattle.mq_print.specs.Lists.{lines_view}
use Rattle.mq_ask_plan.proofs.objects.json_lines.Given as goal

abbrev pub invariant-loop-one : goal.invariant-loop-one
invariant-loop-one l = string_bytes l.text ≡ renamed_texts (lines_view l.compared.old)
    (lines_view l.compared.new) (lines_view l.compared.plan) (take l.one-index l.renamed)
