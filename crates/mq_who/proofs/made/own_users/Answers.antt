use Rattle.std.proofs.Common.{◌≡◌, rules}
use Rattle.std.proofs.lemmas.Result.{IfOk-weaker}
use Rattle.mq_who.proofs.RowLemmas.{users_are}
use Rattle.mq_who.proofs.made.own_users.Goals as goal

pub returns-clause-users : goal.returns-clause-users
returns-clause-users c =
    IfOk-weaker c.collect.result (λ all. all.items ≡ c.loop-row.users.keys) _
    (λ all is name. users_are c.args.allows c.args.rows.now c.loop-row.users c.loop-row.row-index
    all.items name is c.loop-row-test.false
    (c.loop-row.invariant.0 name)) (search rules)
