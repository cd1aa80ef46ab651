use Rattle.std.proofs.Common.{◌≡◌, ◌≤◌, ℕ, List, Option, All, take}
use Rattle.mq_acl_args.specs.Files.{input_count}
use Rattle.mqroute_acl.specs.Test.{IsGiven}
use Rattle.mqroute_acl.proofs.FilesLemmas.{texts}
use Rattle.mqroute_acl.proofs.test.given_texts.Given as goal

-- where no file so far is standard input, that is left alone; and the texts so far are of their files
abbrev pub invariant-loop-file : goal.invariant-loop-file
invariant-loop-file g l = record {
  kept : input_count (texts (take l.file-index l.given)) ≡ 0 → l.input ≡ l.initial.input;
  read : (known : Option (List ℕ)) → (1 ≤ input_count (texts l.given)
      → known ≡ g.I.Read.remaining l.initial.input) → All (IsGiven known) l.lists.items;
}
