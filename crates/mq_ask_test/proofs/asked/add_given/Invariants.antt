use Rattle.std.proofs.Common.{◌≡◌, ◌++◌, drop}
use Rattle.mq_expect.specs.Files.{numbered_views}
use Rattle.mq_ask_test.specs.Questions.{asked_of, asked_views}
use Rattle.mq_ask_test.proofs.asked.add_given.Given as goal

-- with what is asked by the lines that are left it is all
abbrev pub invariant-loop-expectation : goal.invariant-loop-expectation
invariant-loop-expectation l =
    asked_views l.asked.items ++ asked_of l.file
    (numbered_views (drop l.expectation-index l.expectations))
    ≡ asked_views l.initial.asked.items ++ asked_of l.file (numbered_views l.expectations)
