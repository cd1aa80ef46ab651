use Rattle.std.proofs.Common.{ap, refl}
use Rattle.mqroute_acl.proofs.FilesLemmas.{kept_among, kept_more}
use Rattle.mqroute_acl.proofs.TestLemmas.{given_more}
use Rattle.mqroute_acl.proofs.test.given_texts.Goals as goal

pub loop-file-preserved : goal.loop-file-preserved
loop-file-preserved g c =
    let at = c.loop-file in
    let known = g.I.Read.remaining in
    let files = c.args.given.now in
    record {
      kept = kept_more c.args.input.now at.input c.text_of.new.input files at.file-index _
          c.loop-file-test.true at.invariant.kept c.text_of.ensures.kept;
      read = λ shown is_known.
          rw c.in_ok-add_text.ensures
          (given_more shown (known c.args.input.now) (known at.input) files at.file-index _
          at.lists.items _ c.loop-file-test.true c.requires
          (λ none. ap known (at.invariant.kept none)) is_known refl c.in_ok-text.ensures.ok
          (at.invariant.read shown is_known));
    }

pub returns-in_err-text-clause-kept : goal.returns-in_err-text-clause-kept
returns-in_err-text-clause-kept g c =
    kept_among c.args.input.now c.loop-file.input c.text_of.new.input c.args.given.now
    c.loop-file.file-index _ c.loop-file-test.true c.loop-file.invariant.kept
    c.text_of.ensures.kept

pub returns-in_err-add_text-clause-kept : goal.returns-in_err-add_text-clause-kept
returns-in_err-add_text-clause-kept g c =
    kept_among c.args.input.now c.loop-file.input c.text_of.new.input c.args.given.now
    c.loop-file.file-index _ c.loop-file-test.true c.loop-file.invariant.kept
    c.text_of.ensures.kept
