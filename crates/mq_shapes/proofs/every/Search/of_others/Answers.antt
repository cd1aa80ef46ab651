use Rattle.std.proofs.Common.{◌+◌, arith, string_bytes}
use Rattle.mq_unify.specs.Joined.{user_view}
use Rattle.mq_unify.specs.Rows.{lent_rows}
use Rattle.mq_cover.specs.Choices.{other_at}
use Rattle.mq_shapes.proofs.EveryLemmas.{every_user}
use Rattle.mq_shapes.proofs.PassLemmas.{passes_others}
use Rattle.mq_shapes.proofs.TextLemmas.{found_of_others, none_of_others}
use Rattle.mq_shapes.proofs.every.Search.of_others.Goals as goal

pub returns-clause-none : goal.returns-clause-none
returns-clause-none c =
    let self = c.args.self.now in
    let must = lent_rows self.must.now in
    let cover = lent_rows self.cover.now in
    none_of_others self.start self.users.now must cover self.ready.must_ready.whole
    self.ready.cover_ready.whole
    (every_user self.start self.users.now must cover c.most_levels-levels-end.result
    c.most_levels-levels-end.ensures.enough (λ most some low.
    c.loop-levels.invariant most some (omega (arith, c.loop-levels-test.false, low))))

pub returns-in-Some-clause-some : goal.returns-in-Some-clause-some
returns-in-Some-clause-some c =
    let self = c.args.self.now in
    let found = c.in-Some.found in
    found_of_others self.start self.users.now (lent_rows self.must.now) (lent_rows self.cover.now)
    (string_bytes found.client) (user_view found.user) (string_bytes found.topic)
    (c.loop-levels.levels + 1)
    (omega (arith, c.most_levels-levels-end.ensures.few, c.loop-levels-test.true))
    (rw c.in-Some.is at c.in_ok-found.ensures.some)

pub returns-in-Some-clause-pass : goal.returns-in-Some-clause-pass
returns-in-Some-clause-pass c =
    let self = c.args.self.now in
    let found = c.in-Some.found in
    let is = returns-in-Some-clause-some c in
    passes_others self.others (other_at self.start self.others) (lent_rows self.must.now)
    (string_bytes found.client) (user_view found.user) (string_bytes found.topic)
    (c.loop-levels.levels + 1) is.name is.user_is (rw c.in-Some.is at c.in_ok-found.ensures.pass)
