use Rattle.std.proofs.Common.{◌∙◌, ◌++◌, [], None, Some, ap, map, string_bytes, subst, sym}
use Rattle.mq_unify.specs.Joined.{user_view}
use Rattle.std.specs.List.{filter}
use Rattle.mq_shapes.specs.Filled.{row_levels}
use Rattle.mq_shapes.specs.Passed.{TopicPasses}
use Rattle.mq_unify.specs.Rows.{lent_rows}
use Rattle.mq_acl.specs.Views.{row_view}
use Rattle.mq_shapes.specs.Found.{AreReady, HasNone, IsTopic, is_listed}
use Rattle.mq_shapes.specs.Odd.{IsOddUser, is_own_kept}
use Rattle.mq_shapes.proofs.ApartLemmas.{enough_none, enough_ready, enough_topic}
use Rattle.mq_shapes.proofs.KeptLemmas.{all-map, enough_are, firsts_are, ready_of}
use Rattle.mq_shapes.proofs.OddLemmas.{among_is, odd_elsewhere, odd_found, odd_kept, odd_none, other_unlisted}
use Rattle.mq_shapes.proofs.OddLemmas.{own_fit}
use Rattle.mq_shapes.proofs.ruled.Ruled.find_odd.Goals as goal

pub returns-then-not-are_own-clause-none : goal.returns-then-not-are_own-clause-none
returns-then-not-are_own-clause-none c =
    let self = c.args.self.now in
    let own = is_own_kept self.start c.args.clients in
    odd_kept self.start self.users.now c.args.clients (lent_rows self.within.now)
    (lent_rows self.must.now) (lent_rows self.cover.now) self.ready.begun self.ready.literal
    self.ready.must_listed self.ready.cover_listed
    (all-map own (λ row. row_view row.now) self.must.now ∙ sym c.are_own.ensures
    ∙ c.if-not-are_own.true)

pub returns-then-begins_elsewhere-clause-none : goal.returns-then-begins_elsewhere-clause-none
returns-then-begins_elsewhere-clause-none c =
    let self = c.args.self.now in
    odd_elsewhere self.start self.users.now c.args.clients (lent_rows self.within.now)
    (lent_rows self.must.now) (lent_rows self.cover.now) self.ready.begun self.ready.literal
    self.ready.must_listed self.ready.cover_listed
    (c.begins_elsewhere.ensures c.if-begins_elsewhere.true)

pub own_topic-requires-clause-must : goal.own_topic-requires-clause-must
own_topic-requires-clause-must c =
    let self = c.args.self.now in
    let musts = firsts_are self.within.now self.must.now c.deref-2.result.now
    c.in_ok-must.must.items c.deref-2.ensures.value c.in_ok-must.ensures in
    subst (AreReady self.others self.start) (sym musts)
    self.ready.ready.must_ready

pub own_topic-requires-clause-cover : goal.own_topic-requires-clause-cover
own_topic-requires-clause-cover c =
    let self = c.args.self.now in
    let own = is_own_kept self.start c.args.clients in
    let firsts = lent_rows self.within.now ++ lent_rows self.must.now in
    let left = filter own (lent_rows self.cover.now) in
    let rows = lent_rows c.deref-3.result.now in
    let enough = enough_are (lent_rows c.deref.result.now) firsts left
    c.deref-3.result.now c.in_ok-cover.cover.items
    (firsts_are self.within.now self.must.now c.deref.result.now c.in_ok-must.must.items
    c.deref.ensures.value c.in_ok-must.ensures)
    c.deref-3.ensures.value c.in_ok-cover.ensures in
    enough_ready self.start firsts left rows enough self.others
    (ready_of self.others self.start own (lent_rows self.cover.now) self.ready.ready.cover_ready)

pub returns-in_default-clause-none : goal.returns-in_default-clause-none
returns-in_default-clause-none c =
    let self = c.args.self.now in
    let own = is_own_kept self.start c.args.clients in
    let musts = firsts_are self.within.now self.must.now c.deref-2.result.now
    c.in_ok-must.must.items c.deref-2.ensures.value c.in_ok-must.ensures in
    let firsts = lent_rows self.within.now ++ lent_rows self.must.now in
    let left = filter own (lent_rows self.cover.now) in
    let rows = lent_rows c.deref-3.result.now in
    let enough = enough_are (lent_rows c.deref.result.now) firsts left
    c.deref-3.result.now c.in_ok-cover.cover.items
    (firsts_are self.within.now self.must.now c.deref.result.now c.in_ok-must.must.items
    c.deref.ensures.value c.in_ok-must.ensures)
    c.deref-3.ensures.value c.in_ok-cover.ensures in
    odd_none self.start self.users.now c.args.clients (lent_rows self.within.now)
    (lent_rows self.must.now) (lent_rows self.cover.now) self.ready.begun self.ready.literal
    self.ready.must_listed self.ready.cover_listed
    (enough_none self.start firsts left rows enough [] None
    (subst (λ musts. HasNone self.start musts rows [] None) musts
    (rw c.in_default.is at c.in_ok-topic.ensures.none)))

pub returns-clause-some : goal.returns-clause-some
returns-clause-some c =
    let self = c.args.self.now in
    let own = is_own_kept self.start c.args.clients in
    let musts = firsts_are self.within.now self.must.now c.deref-2.result.now
    c.in_ok-must.must.items c.deref-2.ensures.value c.in_ok-must.ensures in
    let firsts = lent_rows self.within.now ++ lent_rows self.must.now in
    let left = filter own (lent_rows self.cover.now) in
    let rows = lent_rows c.deref-3.result.now in
    let enough = enough_are (lent_rows c.deref.result.now) firsts left
    c.deref-3.result.now c.in_ok-cover.cover.items
    (firsts_are self.within.now self.must.now c.deref.result.now c.in_ok-must.must.items
    c.deref.ensures.value c.in_ok-must.ensures)
    c.deref-3.ensures.value c.in_ok-cover.ensures in
    let topic = string_bytes c.in-Some.topic in
    let user = user_view c.in_ok-user.user in
    let unlisted = ap (λ t. is_listed self.users.now (Some t)) c.other.ensures
    ∙ other_unlisted self.others self.start self.users.now firsts
    (lent_rows self.cover.now) self.ready.ready in
    odd_found self.start self.users.now c.args.clients (lent_rows self.within.now)
    (lent_rows self.must.now) (lent_rows self.cover.now) self.ready.begun self.ready.literal
    self.ready.must_listed self.ready.cover_listed
    self.others (all-map own (λ row. row_view row.now) self.must.now ∙ sym c.are_own.ensures
    ∙ c.if-not-are_own.false)
    (string_bytes c.in_ok-from_str.field-0) topic user c.in_ok-from_str.ensures.ok
    (subst (λ t. IsOddUser c.args.clients t user) c.other.ensures c.in_ok-user.ensures)
    (among_is self.users.now c.args.clients c.other.result.now user unlisted c.in_ok-user.ensures)
    (enough_topic self.start firsts left rows enough [] None topic
    (subst (λ musts. IsTopic self.start musts rows [] None topic) musts
    (rw c.in-Some.is at c.in_ok-topic.ensures.some)))

pub returns-clause-pass : goal.returns-clause-pass
returns-clause-pass c = λ test plain dollar fit.
    let self = c.args.self.now in
    let own = is_own_kept self.start c.args.clients in
    let musts = firsts_are self.within.now self.must.now c.deref-2.result.now
    c.in_ok-must.must.items c.deref-2.ensures.value c.in_ok-must.ensures in
    let topic = string_bytes c.in-Some.topic in
    let passes = rw c.in-Some.is at c.in_ok-topic.ensures.pass in
    subst (λ musts. TopicPasses self.others (map (row_levels [] []) musts) topic) musts
    passes test plain dollar (own_fit self.start self.users.now c.args.clients (lent_rows self.within.now)
    (lent_rows self.must.now) (lent_rows self.cover.now) self.ready.begun self.ready.literal
    self.ready.must_listed self.ready.cover_listed
    test (all-map own (λ row. row_view row.now) self.must.now ∙ sym c.are_own.ensures
    ∙ c.if-not-are_own.false) fit)
