use Rattle.std.proofs.Common.{refl}
use Rattle.std.proofs.lemmas.Result.{err_from_is_err_and}
use Rattle.mq_reach.proofs.SearchLemmas.{IsSearched-push}
use Rattle.mq_reach.proofs.search.Search.take_line.Goals as goal

pub returns-clause-searched : goal.returns-clause-searched
returns-clause-searched c = λ before is.
    IsSearched-push c.args.list.now before c.args.line.now c.args.self.now
    c.read.new.self _ c.in_ok-kind.kind is c.in_ok-kind.ensures.ok c.in_ok-kind.ensures.kind
    (record { sessions = refl; clock = refl; tracked = refl; counts = c.with_line-self.ensures })

pub returns-in_err-kind-clause-err : goal.returns-in_err-kind-clause-err
returns-in_err-kind-clause-err c = λ before is.
    let fault = err_from_is_err_and c.from_residual.result c.from_residual.ensures.1 in
    rw (fault.1, fault.2) (c.in_err-kind.ensures.err before is)
