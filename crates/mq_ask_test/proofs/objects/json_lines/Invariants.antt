use Rattle.std.proofs.Common.{string_bytes, take}
use Rattle.mq_ask_test.specs.Objects.{AreVerdictTexts}
use Rattle.mq_print.specs.Lists.{lines_view}
use Rattle.mq_ask_test.proofs.objects.json_lines.Given as goal

abbrev pub invariant-loop-verdict : goal.invariant-loop-verdict
invariant-loop-verdict l = AreVerdictTexts l.lists (lines_view l.expectations)
    (take l.verdict-index l.verdicts) (string_bytes l.text)
