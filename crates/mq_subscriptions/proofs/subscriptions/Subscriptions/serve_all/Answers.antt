use Rattle.std.proofs.Common.{◌+◌, map, drop}
use Rattle.std.proofs.lemmas.List.{drop_more, drop_all}
use Rattle.mq_subscriptions.specs.Turns.{all_turned, turn_of}
use Rattle.mq_subscriptions.proofs.InTurn.{same-then, same-itself, all_turned-same}
use Rattle.mq_subscriptions.proofs.subscriptions.Subscriptions.serve_all.Goals as goal

pub loop-turn-init : goal.loop-turn-init
loop-turn-init c = record {
  rows = same-itself (all_turned (map turn_of c.args.served.now) c.args.self.now.rows);
  keys = λ old. old;
}

pub loop-turn-preserved : goal.loop-turn-preserved
loop-turn-preserved c =
    let i = c.loop-turn.turn-index in
    let t = c.turn-item.result in
    let served = c.args.served.now in
    let moved = rw (c.as_str-in-loop-turn.ensures.value, c.as_str.ensures.value, c.deref.ensures) at
    c.serve.ensures.rows in
    let before = rw (drop_more served i t c.loop-turn-test.true, ← c.turn-item.is) at
    c.loop-turn.invariant.rows in
    let rows = same-then _ _ _
    (all_turned-same (map turn_of (drop (i + 1) served)) _ _ moved) before in
    record { rows = rows; keys = λ old. c.serve.ensures.keys }

pub returns-clause-rows : goal.returns-clause-rows
returns-clause-rows c =
    rw (drop_all c.loop-turn.turn-index c.args.served.now c.loop-turn-test.false) at
    c.loop-turn.invariant.rows
