use Rattle.std.proofs.Common.{arith}
use Rattle.std.proofs.lemmas.Result.{err_from_is_err_and}
use Rattle.mq_router.proofs.RouterLemmas.{refused-as, sender-client, sender-name, sender-write}
use Rattle.mq_router.proofs.RouterLemmas.{sender-passes}
use Rattle.mq_router.proofs.router.Router.check_publish.Goals as goal

pub returns-in_err-publisher-clause-err : goal.returns-in_err-publisher-clause-err
returns-in_err-publisher-clause-err c =
    grind (arith, err_from_is_err_and, refused-as, sender-client)

pub returns-in_err-name-clause-err : goal.returns-in_err-name-clause-err
returns-in_err-name-clause-err c = grind (arith, err_from_is_err_and, refused-as, sender-name)

pub returns-then-not-may_write-clause-err : goal.returns-then-not-may_write-clause-err
returns-then-not-may_write-clause-err c = grind (arith, sender-write)

pub returns-clause-ok : goal.returns-clause-ok
returns-clause-ok c = grind (arith, sender-passes)
