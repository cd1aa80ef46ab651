use Rattle.std.proofs.Common.{ap}
use Rattle.mq_world.specs.World.{fresh_world}
use Rattle.mq_reach.specs.declared.counts.Counts.{Counts}
use Rattle.mq_reach.proofs.search.Search.new.Goals as goal

pub returns-clause-searched : goal.returns-clause-searched
unfolding fresh_world
returns-clause-searched c = λ list. record {
  is_world = record { sessions = c.new.ensures; moment = c.start.ensures };
  tracked = c.new-2.ensures;
  counts = record {
    lines = ap (λ (k : Counts). k.lines) c.new-3.ensures;
    commands = ap (λ (k : Counts). k.commands) c.new-3.ensures;
    subscribed = ap (λ (k : Counts). k.subscriptions) c.new-3.ensures;
    faulty = ap (λ (k : Counts). k.faulty) c.new-3.ensures;
    first_faulty = ap (λ (k : Counts). k.first_faulty) c.new-3.ensures;
  };
}
