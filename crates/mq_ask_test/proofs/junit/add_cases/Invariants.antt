use Rattle.std.proofs.Common.{◌≡◌, ◌++◌, ℕ, List, string_bytes, take}
use Rattle.mq_ask_test.specs.Junit.{AreCases}
use Rattle.mq_print.specs.Lists.{lines_view}
use Rattle.mq_ask_test.proofs.junit.add_cases.Given as goal

-- the first cases are behind the text
abbrev pub invariant-loop-verdict : goal.invariant-loop-verdict
invariant-loop-verdict l = (cases : List ℕ)
    × AreCases (lines_view l.expectations) (take l.verdict-index l.verdicts) cases
    × (string_bytes l.text ≡ string_bytes l.fn.text ++ cases)
