use Rattle.std.proofs.Common.{◌∙◌, sym}
use Rattle.mqroute_acl.proofs.TestLemmas.{named_more}
use Rattle.mqroute_acl.proofs.test.add_named.Goals as goal

pub returns : goal.returns
returns g c = λ input named.
    rw c.in_ok-add_text.ensures
    (named_more input c.args.given.now c.args.lists.now.items _
    (sym c.has_file.ensures ∙ c.if-has_file.false) named)
