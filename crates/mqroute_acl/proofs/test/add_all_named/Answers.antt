use Rattle.mqroute_acl.proofs.test.add_all_named.Goals as goal

pub loop-file-preserved : goal.loop-file-preserved
loop-file-preserved g c = λ input named.
    c.in_ok-add_named.ensures input (c.loop-file.invariant input named)
