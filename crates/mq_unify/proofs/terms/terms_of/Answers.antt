use Rattle.std.proofs.Common.{ap, sym, ◌∙◌}
use Rattle.mq_topic.specs.Levels.{levels, levels_left}
use Rattle.mq_unify.proofs.FilterLemmas.{terms_hash, terms_more, terms_start}
use Rattle.mq_unify.proofs.terms.terms_of.Goals as goal

pub loop-rest-init : goal.loop-rest-init
loop-rest-init c = terms_start c.args.shape c.args.pattern c.args.filter.now c.new-fixed.result.items
    c.new-fixed.ensures.items

pub returns-then-is_last_hash-clause-matched : goal.returns-then-is_last_hash-clause-matched
returns-then-is_last_hash-clause-matched c = λ values client user ls is.
    terms_hash c.args.shape c.args.pattern (levels c.args.filter.now)
    (levels_left c.loop-rest.rest) (levels_left c.split_first.result.1) c.split_first.result.0.now
    c.loop-rest.fixed.items (ap levels_left c.in-Some.is ∙ c.split_first.ensures)
    (sym c.is_last_hash.ensures ∙ c.if-is_last_hash.true) c.loop-rest.invariant values client user ls is

pub loop-rest-preserved : goal.loop-rest-preserved
loop-rest-preserved c =
    terms_more c.args.shape c.args.pattern (levels c.args.filter.now)
    (levels_left c.loop-rest.rest) (levels_left c.split_first.result.1) c.split_first.result.0.now
    c.loop-rest.fixed.items c.add_level.new.terms.items
    (ap levels_left c.in-Some.is ∙ c.split_first.ensures)
    (sym c.is_last_hash.ensures ∙ c.if-is_last_hash.false)
    c.in_ok-add_level.ensures.goes c.in_ok-add_level.ensures.unlike c.loop-rest.invariant
