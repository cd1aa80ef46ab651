use Rattle.std.proofs.Common.{◌≡◌, fold, take}
use Rattle.std.specs.List.{filter_map}
use Rattle.mq_expect.specs.Files.{numbered_views}
use Rattle.mq_ask_test.specs.Files.{added, file_named, texts}
use Rattle.mq_ask_test.proofs.files.add_named.Given as goal

-- those that the first lines name are added
abbrev pub invariant-loop-line : goal.invariant-loop-line
invariant-loop-line l = texts l.files.items ≡ fold added (texts l.initial.files.items)
    (filter_map (λ line. file_named l.given line.1)
    (numbered_views (take l.line-index l.expectations)))
