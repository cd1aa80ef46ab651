use Rattle.std.proofs.Common.{◌≡◌, take}
use Rattle.mq_acl_args.specs.Files.{input_count}
use Rattle.mqroute_acl.specs.Lint.{AreLinted, SaysWhetherAllTaken}
use Rattle.mqroute_acl.proofs.FilesLemmas.{texts}
use Rattle.mqroute_acl.proofs.lint.lint_files.Given as goal

-- the files so far are linted; where none of them is standard input, it is left alone
abbrev pub invariant-loop-file : goal.invariant-loop-file
invariant-loop-file g l = record {
  kept : input_count (texts (take l.file-index l.files)) ≡ 0
      → l.input ≡ l.initial.input;
  linted : AreLinted l.options.rules (g.I.Read.remaining l.initial.input) (texts (take l.file-index l.files))
      l.outcome;
  taken : SaysWhetherAllTaken (g.I.Read.remaining l.initial.input) (texts (take l.file-index l.files))
      l.refused;
}
