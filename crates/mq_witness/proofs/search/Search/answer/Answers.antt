use Rattle.std.proofs.Common.{ap, sym, ◌∙◌}
use Rattle.std.proofs.lemmas.Bool.{not-false}
use Rattle.mq_witness.specs.Clients.{can_be_id}
use Rattle.mq_witness.specs.Ready.{is_nobody}
use Rattle.mq_witness.specs.Rows.{lent_rows}
use Rattle.mq_witness.proofs.AnswerLemmas.{anonymous_hit, anonymous_none, named_hit, named_none}
use Rattle.mq_witness.proofs.AnswerLemmas.{none_concerned, others_hit, others_missed}
use Rattle.mq_witness.proofs.TryLemmas.{none_at, none_follows, some_at, some_follows}
use Rattle.mq_witness.proofs.search.Search.answer.Goals as goal

pub returns-in_default-clause-none : goal.returns-in_default-clause-none
returns-in_default-clause-none c =
    let s = c.args.self.now in
    none_concerned s.front s.fresh s.users.now s.clients c.args.names (lent_rows s.must.now)
    (lent_rows s.cover.now) s.ready
    (none_at _ _ c.in_default.is c.in_ok-question.ensures.none)

pub returns-in-Anonymous-clause-none : goal.returns-in-Anonymous-clause-none
returns-in-Anonymous-clause-none c =
    none_follows c.ask_user.result (anonymous_none c.args.self.now.ready
    (some_at _ _ _ c.in-Some.is c.in_ok-question.ensures.some) c.in-Anonymous.is)
    c.ask_user.ensures.none

pub returns-in-Anonymous-clause-some : goal.returns-in-Anonymous-clause-some
returns-in-Anonymous-clause-some c =
    some_follows c.ask_user.result (anonymous_hit c.args.self.now.ready
    (some_at _ _ _ c.in-Some.is c.in_ok-question.ensures.some) c.in-Anonymous.is)
    c.ask_user.ensures.some

pub returns-in-Named-clause-none : goal.returns-in-Named-clause-none
returns-in-Named-clause-none c =
    none_follows c.ask_user-in-Named.result (named_none c.args.self.now.ready
    (some_at _ _ _ c.in-Some.is c.in_ok-question.ensures.some) c.in-Named.name c.in-Named.is)
    c.ask_user-in-Named.ensures.none

pub returns-in-Named-clause-some : goal.returns-in-Named-clause-some
returns-in-Named-clause-some c =
    let id = not-false (can_be_id c.in-Named.name.now)
    (sym (ap is_nobody c.in-Named.is) ∙ sym c.is_nobody.ensures ∙ c.if-is_nobody.false) in
    some_follows c.ask_user-in-Named.result (named_hit c.args.self.now.ready
    (some_at _ _ _ c.in-Some.is c.in_ok-question.ensures.some) c.in-Named.name c.in-Named.is id)
    c.ask_user-in-Named.ensures.some

pub returns-clause-none : goal.returns-clause-none
returns-clause-none c =
    none_follows c.ask_others.result (others_missed c.args.self.now.ready
    (some_at _ _ _ c.in-Some.is c.in_ok-question.ensures.some) c.in-Others.is)
    c.ask_others.ensures.none

pub returns-clause-some : goal.returns-clause-some
returns-clause-some c =
    some_follows c.ask_others.result (others_hit c.args.self.now.ready
    (some_at _ _ _ c.in-Some.is c.in_ok-question.ensures.some) c.in-Others.is)
    c.ask_others.ensures.some
