use Rattle.std.specs.Option.{option_copied}
use Rattle.mq_witness.specs.Rows.{lent_rows}
use Rattle.mq_witness.proofs.TopicLemmas.{marks_are, no_topic, topic_hit, topic_missed}
use Rattle.mq_witness.proofs.TryLemmas.{none_at, none_follows, some_at, some_follows}
use Rattle.mq_witness.proofs.one.OneClient.topic.Goals as goal

pub returns-in_default-clause-none : goal.returns-in_default-clause-none
returns-in_default-clause-none c =
    let s = c.args.self.now in
    no_topic s.client.now (option_copied s.user) c.args.names (lent_rows s.must.now)
    (lent_rows s.cover.now)
    (none_at c.in_ok-posed.posed _ c.in_default.is c.in_ok-posed.ensures.none)

pub returns-clause-none : goal.returns-clause-none
returns-clause-none c =
    none_follows c.name.result (topic_missed c.args.self.now.client.now
    (some_at _ _ _ c.in-Some.is c.in_ok-posed.ensures.some) _
    (marks_are _ _ c.args.self.now.client.now (option_copied c.args.self.now.user)
    c.level_of.ensures c.level_of-2.ensures)) c.name.ensures.none

pub returns-clause-some : goal.returns-clause-some
returns-clause-some c =
    some_follows c.name.result (topic_hit c.args.self.now.client.now
    (some_at _ _ _ c.in-Some.is c.in_ok-posed.ensures.some) _
    (marks_are _ _ c.args.self.now.client.now (option_copied c.args.self.now.user)
    c.level_of.ensures c.level_of-2.ensures)) c.name.ensures.some
