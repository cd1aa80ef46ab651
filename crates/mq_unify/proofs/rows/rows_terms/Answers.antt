use Rattle.std.proofs.Common.{◌∙◌, ap, refl}
use Rattle.mq_unify.specs.Rows.{lent_rows}
use Rattle.mq_unify.specs.Terms.{all_fit}
use Rattle.mq_unify.proofs.RowLemmas.{from_none}
use Rattle.mq_unify.proofs.rows.rows_terms.Goals as goal

pub returns-clause-matched : goal.returns-clause-matched
returns-clause-matched c = λ values client user ls made.
    from_none c.new-terms.result.items c.add_rows.new.terms.items (lent_rows c.args.rows.now) values
    client user ls c.new-terms.ensures.items
    (c.in_ok-add_rows.ensures.matched values client user ls made)

pub returns-clause-unlike : goal.returns-clause-unlike
returns-clause-unlike c = λ test f u. c.in_ok-add_rows.ensures.unlike test f u
    (ap (all_fit test) c.new-terms.ensures.items ∙ refl)
