use Rattle.std.proofs.Common.{ap, refl}
use Rattle.mqroute_acl.proofs.FilesLemmas.{kept_among, kept_more, linted_all, linted_more, linted_none}
use Rattle.mqroute_acl.proofs.FilesLemmas.{taken_all, taken_more, taken_none}
use Rattle.mqroute_acl.proofs.lint.lint_files.Goals as goal

pub loop-file-init : goal.loop-file-init
loop-file-init g c = record {
  kept = λ none. refl;
  linted = linted_none c.args.options.rules (g.I.Read.remaining c.args.input.now);
  taken = taken_none (g.I.Read.remaining c.args.input.now);
}

pub loop-file-preserved : goal.loop-file-preserved
loop-file-preserved g c =
    let at = c.loop-file in
    let known = g.I.Read.remaining in
    let files = c.args.files.now in
    record {
      kept = kept_more c.args.input.now at.input c.lint_file.new.input files at.file-index _
          c.loop-file-test.true at.invariant.kept c.lint_file.ensures.kept;
      linted =
          rw c.and-outcome.ensures
          (linted_more c.args.options.rules (known c.args.input.now) (known at.input) files at.file-index _ at.outcome
          c.in_ok-linted.linted c.loop-file-test.true c.requires (λ none. ap known (at.invariant.kept none))
          at.invariant.linted c.in_ok-linted.ensures.ok);
      taken =
          rw c.first_refused-refused.ensures
          (taken_more c.args.options.rules (known c.args.input.now) (known at.input) files at.file-index _ at.refused
          c.in_ok-linted.linted c.loop-file-test.true c.requires (λ none. ap known (at.invariant.kept none))
          at.invariant.taken c.in_ok-linted.ensures.ok);
    }

pub returns-clause-ok : goal.returns-clause-ok
returns-clause-ok g c =
    linted_all c.args.options.rules (g.I.Read.remaining c.args.input.now) c.args.files.now c.loop-file.file-index
    c.loop-file.outcome c.loop-file-test.false c.loop-file.invariant.linted

pub returns-clause-taken : goal.returns-clause-taken
returns-clause-taken g c =
    taken_all (g.I.Read.remaining c.args.input.now) c.args.files.now c.loop-file.file-index
    c.loop-file.refused c.loop-file-test.false c.loop-file.invariant.taken

pub returns-in_err-linted-clause-kept : goal.returns-in_err-linted-clause-kept
returns-in_err-linted-clause-kept g c =
    kept_among c.args.input.now c.loop-file.input c.lint_file.new.input c.args.files.now
    c.loop-file.file-index _ c.loop-file-test.true c.loop-file.invariant.kept
    c.lint_file.ensures.kept
