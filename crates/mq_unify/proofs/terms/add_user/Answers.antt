use Rattle.std.proofs.lemmas.Result.{on_ok_weaker}
use Rattle.mq_unify.proofs.MadeLemmas.{known_goes, more_fit, user_goes}
use Rattle.mq_unify.proofs.terms.add_user.Goals as goal

pub returns-in-Known-clause-goes : goal.returns-in-Known-clause-goes
returns-in-Known-clause-goes c = on_ok_weaker c.add_texts.result
    (λ goes values client user behind ls h p. known_goes c.args.shape c.in-Known.name values client user
    behind ls
    c.args.terms.now.items c.add_texts.new.terms.items c.in-Known.is goes h p)
    c.add_texts.ensures.goes

pub returns-in-Levels-clause-goes : goal.returns-in-Levels-clause-goes
returns-in-Levels-clause-goes c = on_ok_weaker c.add_variables.result
    (λ e values client user behind ls h p. user_goes c.args.shape c.in-Levels.count values client user
    behind ls
    c.args.terms.now.items c.add_variables.new.terms.items c.in-Levels.is e h p)
    c.add_variables.ensures

pub returns-in-Levels-clause-unlike : goal.returns-in-Levels-clause-unlike
returns-in-Levels-clause-unlike c = on_ok_weaker c.add_variables.result
    (λ e test l u h. more_fit test c.args.shape.levels c.in-Levels.count
    c.args.terms.now.items c.add_variables.new.terms.items e h) c.add_variables.ensures

pub returns-in-Absent-clause-unlike : goal.returns-in-Absent-clause-unlike
returns-in-Absent-clause-unlike c = on_ok_weaker c.add_plain.result
    (λ pass test l u h. pass test l h) c.add_plain.ensures.unlike
