use Rattle.std.proofs.Common.{◌≡◌, string_bytes, take}
use Rattle.mq_ask_why.specs.Explained.{answers_text}
use Rattle.mq_print.specs.Lists.{lines_view}
use Rattle.mq_ask_why.proofs.explanation.answers_text.Given as goal

abbrev pub invariant-loop-answer : goal.invariant-loop-answer
invariant-loop-answer l = string_bytes l.text
    ≡ answers_text (lines_view l.list) (take l.answer-index l.answers)
