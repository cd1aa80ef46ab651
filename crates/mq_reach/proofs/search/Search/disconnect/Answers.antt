use Rattle.std.proofs.Common.{◌∙◌, sym, refl}
use Rattle.std.proofs.lemmas.Bool.{and_parts}
use Rattle.mq_world.specs.Refusals.{is_client_id}
use Rattle.mq_world.specs.Sessions.{is_connected}
use Rattle.mq_reach.proofs.CommandLemmas.{disconnect-ends, disconnect-refused, disconnect-stays}
use Rattle.mq_reach.proofs.search.Search.disconnect.Goals as goal

pub returns-then-not-is_connected : goal.returns-then-not-is_connected
returns-then-not-is_connected c = λ list.
    disconnect-refused list c.args.client.now c.args.self.now
    (sym c.is_connected.ensures ∙ c.if-not-is_connected.true)

pub returns-then-outlives : goal.returns-then-outlives
returns-then-outlives c = λ list.
    let act = sym c.is_connected.ensures ∙ c.if-not-is_connected.false in
    disconnect-stays list c.args.client.now c.args.self.now _ act
    (sym c.outlives.ensures ∙ c.if-outlives.true)
    (c.disconnect.ensures.left (and_parts (is_client_id c.args.client.now)
    (is_connected c.args.self.now.sessions c.args.client.now) act).1)
    refl refl refl

pub returns : goal.returns
returns c = λ list.
    disconnect-ends list c.args.client.now c.args.self.now _
    (sym c.is_connected.ensures ∙ c.if-not-is_connected.false)
    (sym c.outlives.ensures ∙ c.if-outlives.false) c.remove.ensures refl c.close_all.ensures refl
