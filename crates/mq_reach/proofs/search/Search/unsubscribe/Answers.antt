use Rattle.std.proofs.Common.{◌∙◌, sym, refl}
use Rattle.std.proofs.lemmas.Bool.{and_from, and_left, and_right}
use Rattle.mq_topic.specs.Texts.{is_subscription}
use Rattle.mq_reach.proofs.CommandLemmas.{can_act, unsubscribe-refused, unsubscribe-taken}
use Rattle.mq_reach.proofs.search.Search.unsubscribe.Goals as goal

pub returns-then-not-is_connected : goal.returns-then-not-is_connected
returns-then-not-is_connected c = λ list.
    unsubscribe-refused list c.args.client.now c.args.filter.now c.args.self.now
    (and_left (can_act c.args.self.now c.args.client.now) (is_subscription c.args.filter.now)
    (sym c.is_connected.ensures ∙ c.if-not-is_connected.true))

pub returns-then-not-is_valid : goal.returns-then-not-is_valid
returns-then-not-is_valid c = λ list.
    unsubscribe-refused list c.args.client.now c.args.filter.now c.args.self.now
    (and_right (can_act c.args.self.now c.args.client.now) (is_subscription c.args.filter.now)
    (sym c.is_valid.ensures ∙ c.if-not-is_valid.true))

pub returns : goal.returns
returns c = λ list.
    unsubscribe-taken list c.args.client.now c.args.filter.now c.args.self.now _
    (and_from (can_act c.args.self.now c.args.client.now) (is_subscription c.args.filter.now)
    (sym c.is_connected.ensures ∙ c.if-not-is_connected.false)
    (sym c.is_valid.ensures ∙ c.if-not-is_valid.false))
    refl refl c.close.ensures refl
