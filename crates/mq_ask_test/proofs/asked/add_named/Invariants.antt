use Rattle.std.proofs.Common.{◌≡◌, ◌++◌, None, drop}
use Rattle.std.specs.Option.{option_copied}
use Rattle.mq_expect.specs.Files.{numbered_views}
use Rattle.mq_ask_test.specs.Questions.{asked_from, asked_views}
use Rattle.mq_ask_test.proofs.asked.add_named.Given as goal

-- with what is asked by the lines that are left it is all
abbrev pub invariant-loop-expectation : goal.invariant-loop-expectation
invariant-loop-expectation l =
    asked_views l.asked.items ++ asked_from (option_copied l.list)
    (numbered_views (drop l.expectation-index l.expectations))
    ≡ asked_views l.initial.asked.items ++ asked_from None (numbered_views l.expectations)
