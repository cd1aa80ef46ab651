use Rattle.std.proofs.Common.{sym, ◌∙◌}
use Rattle.std.proofs.lemmas.Result.{on_ok_weaker}
use Rattle.mq_unify.proofs.MadeLemmas.{as_client, as_plain, as_user}
use Rattle.mq_unify.proofs.terms.add_level.Goals as goal

pub returns-then-is_mark-clause-goes : goal.returns-then-is_mark-clause-goes
returns-then-is_mark-clause-goes c = on_ok_weaker c.add_client.result
    (λ goes values client user behind ls is. as_client c.args.shape values client user c.args.level.now
    c.args.terms.now.items c.add_client.new.terms.items behind ls c.args.pattern is
    (sym c.is_mark.ensures ∙ c.if-is_mark.true) (λ h p. goes values client user behind ls h p))
    c.add_client.ensures.goes

pub returns-then-is_mark-clause-unlike : goal.returns-then-is_mark-clause-unlike
returns-then-is_mark-clause-unlike c = on_ok_weaker c.add_client.result
    (λ unlike test l u h. unlike test h) c.add_client.ensures.unlike

pub returns-then-is_mark-2-clause-goes : goal.returns-then-is_mark-2-clause-goes
returns-then-is_mark-2-clause-goes c = on_ok_weaker c.add_user.result
    (λ goes values client user behind ls is. as_user c.args.shape values client user c.args.level.now
    c.args.terms.now.items c.add_user.new.terms.items behind ls c.args.pattern is
    (sym c.is_mark-2.ensures ∙ c.if-is_mark-2.true) goes)
    c.add_user.ensures.goes

pub returns-clause-goes : goal.returns-clause-goes
returns-clause-goes c = on_ok_weaker c.add_plain.result
    (λ goes values client user behind ls is. as_plain c.args.shape values client user c.args.level.now
    c.args.terms.now.items c.add_plain.new.terms.items behind ls c.args.pattern is
    (sym c.is_mark.ensures ∙ c.if-is_mark.false) (sym c.is_mark-2.ensures ∙ c.if-is_mark-2.false)
    (goes values behind ls))
    c.add_plain.ensures.goes

pub returns-clause-unlike : goal.returns-clause-unlike
returns-clause-unlike c = on_ok_weaker c.add_plain.result
    (λ pass test l u h. pass test l h) c.add_plain.ensures.unlike
