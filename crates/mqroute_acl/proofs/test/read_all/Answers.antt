use Rattle.std.proofs.Common.{subst, sym}
use Rattle.std.proofs.lemmas.List.Elements.{All-push}
use Rattle.mqroute_acl.specs.Test.{IsNamed, IsRead}
use Rattle.mqroute_acl.proofs.test.read_all.Goals as goal

pub loop-list-preserved : goal.loop-list-preserved
loop-list-preserved c = λ input given named.
    let at = c.loop-list in
    rw c.in_ok-add_read.ensures
    (All-push (IsRead c.args.rules input given) at.all.items c.in_ok-read.read
    (at.invariant input given named)
    (c.in_ok-read.ensures input given
    (subst (IsNamed input given) (sym c.list-item.is)
    (named at.list-index c.list-item.result c.loop-list-test.true))))
