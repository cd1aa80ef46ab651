use Rattle.std.proofs.Common.{map, drop}
use Rattle.mq_world.specs.Turns.{SameInTurn}
use Rattle.mq_subscriptions.specs.Turns.{all_turned, turn_of}
use Rattle.mq_subscriptions.specs.Filters.{AreKeys}
use Rattle.mq_subscriptions.proofs.subscriptions.Subscriptions.serve_all.Given as goal

abbrev pub invariant-loop-turn : goal.invariant-loop-turn
invariant-loop-turn l = record {
  rows : SameInTurn (all_turned (map turn_of (drop l.turn-index l.served)) l.self.rows)
      (all_turned (map turn_of l.served) l.initial.self.rows);
  keys : AreKeys l.initial.self → AreKeys l.self;
}
