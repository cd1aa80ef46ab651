use Rattle.std.proofs.Common.{◌+◌, ◌&&◌, ◌||◌}
use Rattle.std.proofs.lemmas.Result.{on_ok_weaker}
use Rattle.mq_acl.specs.Rows.{Anonymous}
use Rattle.mq_differences.specs.Marks.{same_who}
use Rattle.mq_who.proofs.RowLemmas.{own_made}
use Rattle.mq_who.proofs.made.add_own.Goals as goal

pub returns : goal.returns
returns c = on_ok_weaker c.add_users.result (λ added whom most m.
    own_made c.args.allows c.args.wanted.now c.args.rows.now c.deref.result.now
    c.in_ok-users.users.items c.add_users.new.made.items c.deref.ensures.value
    c.in_ok-users.ensures.users c.in_ok-users.ensures.few whom most
    (added (λ who. whom who || (c.args.allows && same_who who Anonymous)) (most + 1)
    (c.in_ok-add_anonymous.ensures whom most m))) c.add_users.ensures
