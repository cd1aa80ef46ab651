use Rattle.std.proofs.Common.{◌∙◌, ap, string_bytes, sym}
use Rattle.std.proofs.lemmas.Result.{IfOk-weaker}
use Rattle.mq_unify.specs.Joined.{user_view}
use Rattle.mq_shapes.proofs.PassLemmas.{if_both}
use Rattle.mq_shapes.proofs.TextLemmas.{if_none, if_some}
use Rattle.mq_witness.specs.Rows.{lent_rows}
use Rattle.mq_witness.proofs.RuledSearchLemmas.{found_odd, found_ruled, lent_within, nobody_ruled}
use Rattle.mq_witness.proofs.RuledSearchLemmas.{none_ruled, odd_passes, ruled_passes}
use Rattle.mq_witness.proofs.ruled_search.RuledSearch.find.Goals as goal

-- ---- without wildcards
pub returns-in-Some-clause-some : goal.returns-in-Some-clause-some
returns-in-Some-clause-some c =
    let self = c.args.self.now in
    let found = c.in-Some.found in
    found_ruled self.others self.users.now (lent_rows self.states.now) (lent_rows self.must.now)
    (lent_rows self.cover.now) self.ready c.args.names c.args.clients (string_bytes found.client)
    (string_bytes found.topic) (user_view found.user) c.requires
    (sym c.is_nobody.ensures ∙ c.if-is_nobody.false)
    (rw c.in-Some.is at c.in_ok-found.ensures.some)
    (rw c.in-Some.is at c.in_ok-found.ensures.pass)

pub returns-in-Some-clause-pass : goal.returns-in-Some-clause-pass
returns-in-Some-clause-pass c =
    let self = c.args.self.now in
    let found = c.in-Some.found in
    ruled_passes self.others self.users.now (lent_rows self.states.now) (lent_rows self.must.now)
    (lent_rows self.cover.now) self.ready c.args.names c.args.clients (string_bytes found.client)
    (string_bytes found.topic) (user_view found.user)
    (rw c.in-Some.is at c.in_ok-found.ensures.pass)

-- ---- with a wildcard
pub returns-clause-none : goal.returns-clause-none
returns-clause-none c =
    let self = c.args.self.now in
    let inside = ap lent_rows c.ruled.ensures.within ∙ lent_within c.args.names self.states.now in
    IfOk-weaker c.find_odd.result _ _ (if_none (λ odd. none_ruled self.others self.users.now
    (lent_rows self.states.now) (lent_rows self.must.now) (lent_rows self.cover.now) self.ready
    c.args.names c.args.clients (rw c.in_default.is at c.in_ok-found.ensures.none)
    (rw (
      c.ruled.ensures.start,
      c.ruled.ensures.users,
      inside,
      c.ruled.ensures.must,
      c.ruled.ensures.cover,
    ) at odd))) c.find_odd.ensures.none

pub returns-clause-some : goal.returns-clause-some
returns-clause-some c =
    let self = c.args.self.now in
    let inside = ap lent_rows c.ruled.ensures.within ∙ lent_within c.args.names self.states.now in
    IfOk-weaker c.find_odd.result _ _ (if_some (λ found odd. found_odd self.others self.users.now
    (lent_rows self.states.now) (lent_rows self.must.now) (lent_rows self.cover.now) self.ready
    c.args.names c.args.clients (string_bytes found.client) (string_bytes found.topic)
    (user_view found.user) (sym c.is_nobody.ensures ∙ c.if-is_nobody.false)
    (rw (
      c.ruled.ensures.others,
      c.ruled.ensures.start,
      c.ruled.ensures.users,
      inside,
      c.ruled.ensures.must,
      c.ruled.ensures.cover,
    ) at odd))) c.find_odd.ensures.some

pub returns-clause-pass : goal.returns-clause-pass
returns-clause-pass c =
    let self = c.args.self.now in
    let inside = ap lent_rows c.ruled.ensures.within ∙ lent_within c.args.names self.states.now in
    if_both (λ found odd passes. odd_passes self.others self.users.now (lent_rows self.states.now)
    (lent_rows self.must.now) (lent_rows self.cover.now) self.ready c.args.names c.args.clients
    (string_bytes found.client) (string_bytes found.topic) (user_view found.user)
    (rw (
      c.ruled.ensures.others,
      c.ruled.ensures.start,
      c.ruled.ensures.users,
      inside,
      c.ruled.ensures.must,
      c.ruled.ensures.cover,
    ) at odd)
    (rw (c.ruled.ensures.others, inside, c.ruled.ensures.must) at passes))
    c.find_odd.result c.find_odd.ensures.some c.find_odd.ensures.pass
