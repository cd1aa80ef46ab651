use Rattle.std.proofs.lemmas.Result.{on_ok_weaker}
use Rattle.mq_acl.specs.Views.{row_view}
use Rattle.mq_unify.proofs.RowLemmas.{more_fit, more_matched, none_matched, of_row}
use Rattle.mq_unify.proofs.rows.+add_rows.Goals as goal

pub returns-in_default-clause-matched : goal.returns-in_default-clause-matched
returns-in_default-clause-matched t c = λ values client user ls made.
    none_matched c.args.rows.now c.in_default.ensures.cases values client user ls
    c.args.terms.now.items

pub returns-in_default-clause-unlike : goal.returns-in_default-clause-unlike
returns-in_default-clause-unlike t c = λ test f u h. h

pub returns-clause-matched : goal.returns-clause-matched
returns-clause-matched t c = on_ok_weaker c.add_rows.result
    (more_matched c.args.shape c.args.terms.now.items c.push.new.self.items
    c.add_rows.new.terms.items c.args.rows.now c.in-Some.rest.now c.in-Some.row.now c.in_ok-more.more
    c.in-Some.ensures.cases.0 c.in_ok-push.ensures.items
    (of_row c.args.shape (row_view c.in-Some.row.now.now) c.in_ok-more.more c.is_pattern.result
    c.text.result.now c.is_pattern.ensures c.text.ensures.text c.in_ok-more.ensures.matched
    c.in_ok-more.ensures.unlike)) c.add_rows.ensures.matched

pub returns-clause-unlike : goal.returns-clause-unlike
returns-clause-unlike t c = on_ok_weaker c.add_rows.result
    (more_fit c.args.shape c.args.terms.now.items c.push.new.self.items
    c.add_rows.new.terms.items c.args.rows.now c.in-Some.rest.now c.in-Some.row.now c.in_ok-more.more
    c.in-Some.ensures.cases.0 c.in_ok-push.ensures.items
    (of_row c.args.shape (row_view c.in-Some.row.now.now) c.in_ok-more.more c.is_pattern.result
    c.text.result.now c.is_pattern.ensures c.text.ensures.text c.in_ok-more.ensures.matched
    c.in_ok-more.ensures.unlike)) c.add_rows.ensures.unlike
