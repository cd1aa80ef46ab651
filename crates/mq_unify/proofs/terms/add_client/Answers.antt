use Rattle.std.proofs.lemmas.Result.{on_ok_weaker}
use Rattle.mq_unify.proofs.MadeLemmas.{client_goes, more_fit}
use Rattle.mq_unify.proofs.terms.add_client.Goals as goal

pub returns-clause-goes : goal.returns-clause-goes
returns-clause-goes c = on_ok_weaker c.add_variables.result
    (λ e values client user behind ls h p. client_goes c.args.shape values client user behind ls
    c.args.terms.now.items c.add_variables.new.terms.items e h p) c.add_variables.ensures

pub returns-clause-unlike : goal.returns-clause-unlike
returns-clause-unlike c = on_ok_weaker c.add_variables.result
    (λ e test h. more_fit test 0 c.args.shape.levels c.args.terms.now.items
    c.add_variables.new.terms.items e h) c.add_variables.ensures
