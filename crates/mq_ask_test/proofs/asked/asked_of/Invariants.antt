use Rattle.std.proofs.Common.{◌≡◌, map, take}
use Rattle.std.specs.List.{flat_map}
use Rattle.mq_expect.specs.Files.{numbered_views}
use Rattle.mq_ask_test.specs.Questions.{asked_of, asked_views}
use Rattle.mq_ask_test.proofs.asked.asked_of.Given as goal

-- what is asked of the first lists
abbrev pub invariant-loop-file : goal.invariant-loop-file
invariant-loop-file l = asked_views l.asked.items
    ≡ flat_map (λ f. asked_of f (numbered_views l.expectations))
    (map (λ f. f.now) (take l.file-index l.given))
