use Rattle.std.specs.Option.{option_copied}
use Rattle.mq_witness.specs.Limits.{usable}
use Rattle.mq_witness.specs.Rows.{lent_rows}
use Rattle.mq_witness.proofs.ReadyLemmas.{all_contained, can_answer}
use Rattle.mq_witness.proofs.TopicLemmas.{both_kinds, plain_topic, readable_topic, ready_for}
use Rattle.mq_witness.proofs.TryLemmas.{none_at, none_weaker, some_at, some_weaker}
use Rattle.mq_witness.proofs.asked.Asked.find_topic.Goals as goal

pub invariant_of-one : goal.invariant_of-one
invariant_of-one c =
    let can = can_answer c.self.view_is c.self.invariant.0 in
    record {
      ready = ready_for c.self.inside.longest c.fresh.result can.longer c.fresh.ensures
          c.args.client.now (option_copied c.args.user) (lent_rows c.args.must.now)
          (lent_rows c.args.cover.now)
          (none_at c.limit_fault.result _ c.in_default.is c.limit_fault.ensures.none)
          (all_contained usable c.args.self.now.rows (lent_rows c.args.cover.now) can.all_usable
          c.requires.cover);
    }

pub returns-clause-none : goal.returns-clause-none
returns-clause-none c =
    none_weaker c.in_ok-topic-2.topic (λ other.
    both_kinds c.args.rules c.readable.result c.args.client.now (option_copied c.args.user)
    (lent_rows c.args.must.now) (lent_rows c.args.cover.now) c.readable.ensures
    (none_at c.in_ok-topic.field-0 _ c.in_default-2.is c.in_ok-topic.ensures.none) other)
    c.in_ok-topic-2.ensures.none

pub returns-in-Some-2-clause-some : goal.returns-in-Some-2-clause-some
returns-in-Some-2-clause-some c = plain_topic c.args.rules
    (some_at _ _ _ c.in-Some-2.is c.in_ok-topic.ensures.some)

pub returns-clause-some : goal.returns-clause-some
returns-clause-some c =
    some_weaker c.in_ok-topic-2.topic
    (λ name. readable_topic c.args.rules c.readable.result c.readable.ensures)
    c.in_ok-topic-2.ensures.some
