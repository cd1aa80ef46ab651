use Rattle.std.proofs.Common.{◌≡◌, fold, take}
use Rattle.mq_ask_test.specs.Files.{added, texts}
use Rattle.mq_ask_test.proofs.files.add_given.Given as goal

-- the first are added
abbrev pub invariant-loop-file : goal.invariant-loop-file
invariant-loop-file l = texts l.files.items
    ≡ fold added (texts l.initial.files.items) (texts (take l.file-index l.given))
