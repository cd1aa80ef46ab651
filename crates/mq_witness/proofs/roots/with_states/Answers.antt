use Rattle.mq_witness.proofs.RootLemmas.{states_begin}
use Rattle.mq_witness.proofs.roots.with_states.Goals as goal

pub returns-clause-begin : goal.returns-clause-begin
returns-clause-begin c = states_begin c.state_filter.result c.args.roots.items
    c.push.new.self.items c.state_filter.ensures c.in_ok-push.ensures.items
